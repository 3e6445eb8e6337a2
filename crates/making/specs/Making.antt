-- What the parts of `run` promise of one call.
use Rattle.std.specs.Prelude.{ℕ, ◌≤◌, ◌≡◌, List, length}
use Rattle.rules.specs.declared.State.{State}
use Rattle.rules.specs.Calls.{Reply, Call, reply_to}
use Rattle.layout.specs.Layout.{row_length, word, head_of, size_of, list_places, text_places, answer_row}
use Rattle.layout.specs.Layout.{list_added, text_added}

-- the state handed on, the answer's row and the lent buffer are the reply's
pub record Made (r : Reply) (state : State) (row buffer : List ℕ) : Type 0 where
  pub left : state ≡ r.state
  pub said : row ≡ answer_row r.says
  pub wrote : buffer ≡ r.buffer

-- these numbers begin with a call, and it has its places and its buffers
pub record Lent (words row list text : List ℕ) : Type 0 where
  pub known : head_of (word words 0) ≡ 0 → ⊥
  pub whole : size_of words ≤ length words
  pub room : length row ≡ row_length
  pub places : length list ≡ list_places words
  pub bytes : length text ≡ text_places words

-- the state handed on, the answer's row and both buffers are as the rules' reply to the call has them
pub record Answered (s : State) (call : Call) (state : State) (row list text : List ℕ) : Type 0 where
  pub left : state ≡ (reply_to s call).state
  pub said : row ≡ answer_row (reply_to s call).says
  pub listed : list ≡ list_added call (reply_to s call)
  pub told : text ≡ text_added call (reply_to s call)

-- One call, made by its kind: what the function of that kind gave is the rules' reply to the call that the numbers make.
use Prim.Native.Nat.{ℕ, ◌+◌, ◌≤◌, ◌<◌}
use mathlib.Core.Path.{◌≡◌, refl, ◌∙◌, ap}
use mathlib.Core.Bool.{◌||◌}
use mathlib.Core.List.{List, [], ◌∷◌}
use native.Mathlib.Omega.{arith}
use lib.ListN.{length, take, drop}
use lib.Dec.{eqb}
use Rattle.laws.specs.Bools.{when◌then◌else◌}
use Rattle.rules.specs.declared.State.{State}
use Rattle.rules.specs.declared.Outcome.{Outcome}
use Rattle.rules.specs.declared.Outcome.TheVariants
use Rattle.rules.specs.Calls.{job, pick, report, ask, board, job_reply, pick_reply, report_reply, ask_reply, board_reply, reply_to}
use Rattle.layout.specs.Layout.{word, head_of, list_places, text_places, call_of}
use Rattle.layout.specs.Layout.{list_added, text_added}
use Rattle.making.specs.Making.{Made, Lent, Answered}
use Rattle.layout.proofs.LayoutLaws.{nonzero, size_is, head_job, tail_job}

no_length : (l : List ℕ) → length l ≡ 0 → l ≡ []
no_length [] h = refl
no_length (x ∷ l) h = absurd (omega (arith, h))

module _ {words row list text : List ℕ} (lent : Lent words row list text) where
  pub head_fits : head_of (word words 0) ≤ length words
  head_fits = omega (arith, lent.whole, size_is words)

  pub some_words : 0 < length words
  some_words = omega (arith, nonzero (head_of (word words 0)) lent.known, head_fits)

  pub job_fits : word words 0 ≡ 1 → 5 + word words 4 ≤ length words
  job_fits h = omega (arith, lent.whole, size_is words, head_job (word words 0) h, tail_job words h)

  -- a kind that is lent no list, or no text
  module _ (k : ℕ) (h : word words 0 ≡ k) where
    no_list_lem : (when eqb k 1 then word words 3 else when eqb k 3 || eqb k 4 then word words 4 else 0) ≡ 0 → list ≡ []
    unfolding list_places
    no_list_lem e = no_length list (lent.places ∙ ap (λ k. when eqb k 1 then word words 3 else when eqb k 3 || eqb k 4 then word words 4 else 0) h ∙ e)

    no_text : (when eqb k 6 then word words 1 else 0) ≡ 0 → text ≡ []
    unfolding text_places
    no_text e = no_length text (lent.bytes ∙ ap (λ k. when eqb k 6 then word words 1 else 0) h ∙ e)

  module _ (s : State) {state : State} {row2 : List ℕ} where
    pub answered_job :
        {list2 : List ℕ}
        → word words 0 ≡ 1
        → Made (job_reply s (word words 1) (word words 2) (take (word words 4) (drop 5 words)) list) state row2 list2
        → Answered s (call_of words list text) state row2 list2 text
    unfolding call_of reply_to list_added text_added when◌then◌else◌
    answered_job h m = rw h (record { left = m.left; said = m.said; listed = m.wrote; told = no_text 1 h refl })

    pub answered_pick : word words 0 ≡ 2 → Made (pick_reply s (word words 1)) state row2 [] → Answered s (call_of words list text) state row2 list text
    unfolding call_of reply_to list_added text_added when◌then◌else◌
    answered_pick h m = rw h (record { left = m.left; said = m.said; listed = no_list_lem 2 h refl; told = no_text 2 h refl })

    pub answered_success :
        {list2 : List ℕ}
        → word words 0 ≡ 3
        → Made (report_reply s (word words 1) (word words 2) (word words 3) Outcome.Success list) state row2 list2
        → Answered s (call_of words list text) state row2 list2 text
    unfolding call_of reply_to list_added text_added when◌then◌else◌
    answered_success h m = rw h (record { left = m.left; said = m.said; listed = m.wrote; told = no_text 3 h refl })

    pub answered_failure :
        {list2 : List ℕ}
        → word words 0 ≡ 4
        → Made (report_reply s (word words 1) (word words 2) (word words 3) Outcome.Failure list) state row2 list2
        → Answered s (call_of words list text) state row2 list2 text
    unfolding call_of reply_to list_added text_added when◌then◌else◌
    answered_failure h m = rw h (record { left = m.left; said = m.said; listed = m.wrote; told = no_text 4 h refl })

    pub answered_ask : word words 0 ≡ 5 → Made (ask_reply s (word words 1)) state row2 [] → Answered s (call_of words list text) state row2 list text
    unfolding call_of reply_to list_added text_added when◌then◌else◌
    answered_ask h m = rw h (record { left = m.left; said = m.said; listed = no_list_lem 5 h refl; told = no_text 5 h refl })

    pub answered_board : {text2 : List ℕ} → word words 0 ≡ 6 → Made (board_reply s text) state row2 text2 → Answered s (call_of words list text) state row2 list text2
    unfolding call_of reply_to list_added text_added when◌then◌else◌
    answered_board h m = rw h (record { left = m.left; said = m.said; listed = no_list_lem 6 h refl; told = m.wrote })

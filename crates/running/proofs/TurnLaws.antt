-- A run, followed turn by turn: what is done so far, and what is still to be read.
use Prim.Native.Nat.{ℕ, ◌+◌, ◌-◌, ◌≤◌, ◌<◌}
use mathlib.Core.Path.{◌≡◌, refl, sym, ◌∙◌, ap, subst}
use mathlib.Core.List.{List, [], ◌∷◌, ◌++◌, append_assoc, append-nil}
use native.Mathlib.Nat.{sub-zero}
use native.Mathlib.Omega.{arith}
use lib.ListN.{length, take, drop, length-append, length-drop}
use lib.Seq.{drop-drop}
use borrow.Rule.Slice.PartMut.{put_mid}
use Rattle.rules.specs.declared.State.{State}
use Rattle.rules.specs.Calls.{Call}
use Rattle.rules.specs.History.{state_from, gathered}
use Rattle.rules.proofs.HistoryLaws.{state_more}
use Rattle.laws.specs.Wrote.{Wrote}
use Rattle.laws.proofs.Writing.{wrote_none}
use Rattle.layout.specs.Layout.{word, head_of, size_of, list_places, text_places, call_of, row_length, end_before, reading}
use Rattle.running.specs.WholeReply.{row_added, Ran, calls_read, ran_from}
use Rattle.layout.specs.Layout.{list_added, text_added}
use Rattle.making.specs.Making.{Lent, Answered}
use Rattle.layout.proofs.LayoutLaws.{nonzero, size_is, end_most, Ahead, ahead_of}
use Rattle.running.proofs.ReadingLaws.{wrote_more, reading_ends, behind, reading_goes, same_reading, same_length, untouched, part_length, rest_whole}

-- What is so at the head of each turn. A run starts from s with these slices; `at` numbers are read, and the first `row`, `listed` and `told`
-- places of the slices are written.

pub record Running (s : State) (words answers lists texts : List ℕ) (state : State) (made at row listed told : ℕ) (a l t : List ℕ) : Type 0 where
  pub done : List Call
  -- how many calls may still be read
  pub left : ℕ
  pub enough : length words ≤ left + at
  pub within : at ≤ length words
  pub few : made ≤ at
  pub calls :
      (calls_read words answers lists texts).calls
      ≡ done ++ (reading left (drop at words) (length answers - row) (drop listed lists) (drop told texts)).calls
  pub end :
      (calls_read words answers lists texts).end
      ≡ (reading left (drop at words) (length answers - row) (drop listed lists) (drop told texts)).end
  pub reached : state ≡ state_from s done
  pub count : made ≡ length done
  pub rows : Wrote (gathered row_added s done) answers a row
  pub rowsfit : row ≤ length answers
  pub listings : Wrote (gathered list_added s done) lists l listed
  pub listsfit : listed ≤ length lists
  pub tellings : Wrote (gathered text_added s done) texts t told
  pub textsfit : told ≤ length texts

pub starts : (s : State) (words answers lists texts : List ℕ) → Running s words answers lists texts s 0 0 0 0 0 answers lists texts
unfolding gathered state_from
starts s words answers lists texts =
    record {
      done = [];
      left = length words;
      enough = omega arith;
      within = omega arith;
      few = omega arith;
      calls = rw sub-zero refl;
      end = rw sub-zero refl;
      reached = refl;
      count = refl;
      rows = wrote_none answers;
      rowsfit = omega arith;
      listings = wrote_none lists;
      listsfit = omega arith;
      tellings = wrote_none texts;
      textsfit = omega arith;
    }

-- it goes on after so many numbers and places
abbrev pub GoesOn : List ℕ → List ℕ → List ℕ → List ℕ → ℕ → ℕ → ℕ → ℕ → Type 0
GoesOn words answers lists texts at row listed told =
    ◌≡◌ {A = ℕ} 0 (end_before (drop at words) (length answers - row) (length (drop listed lists)) (length (drop told texts)))

module _ {s : State} {words answers lists texts : List ℕ} {state : State} {made at row listed told : ℕ} {a l t : List ℕ}
    (run : Running s words answers lists texts state made at row listed told a l t) where
  pub answers_length : length a ≡ length answers
  answers_length = same_length run.rows run.rowsfit

  pub lists_length : length l ≡ length lists
  lists_length = same_length run.listings run.listsfit

  pub texts_length : length t ≡ length texts
  texts_length = same_length run.tellings run.textsfit

  pub rest_is : take (length words - at) (drop at words) ≡ drop at words
  rest_is = rest_whole at words

  -- why it ends here, as the code asks it and as the reading does
  pub asked :
      (e : ℕ)
      → e ≡ end_before (take (length words - at) (drop at words)) (length a - row) (length l - listed) (length t - told)
      → e ≡ end_before (drop at words) (length answers - row) (length (drop listed lists)) (length (drop told texts))
  asked e h =
      h ∙ rw (rest_is, answers_length, lists_length, texts_length, length-drop listed lists, length-drop told texts) refl

  rest_short : length (drop at words) ≤ run.left
  rest_short = rw length-drop (omega (arith, run.enough))

  -- it ends
  pub ends :
      (e : ℕ)
      → e ≡ end_before (drop at words) (length answers - row) (length (drop listed lists)) (length (drop told texts))
      → (e ≡ 0 → ⊥)
      → record { calls = made; end = e; answers = a; lists = l; texts = t }
      ≡ ran_from s (calls_read words answers lists texts) answers lists texts
  unfolding ran_from
  ends e h z =
      let r = reading_ends (drop at words) (length answers - row) (drop listed lists) (drop told texts) run.left e rest_short h z in
      let calls : (calls_read words answers lists texts).calls ≡ run.done = run.calls ∙ ap (λ x. run.done ++ x.calls) r ∙ append-nil run.done in
      let end : (calls_read words answers lists texts).end ≡ e = run.end ∙ ap (λ x. x.end) r in
      rw (calls, end, run.count, run.rows.bytes, run.listings.bytes, run.tellings.bytes) refl

module _ {s : State} {words answers lists texts : List ℕ} {state : State} {made at row listed told : ℕ} {a l t : List ℕ}
    (run : Running s words answers lists texts state made at row listed told a l t)
    (on : GoesOn words answers lists texts at row listed told) where
  -- it goes on: what the call at the front may use is there
  pub ahead : Ahead (drop at words) (length answers - row) (length lists - listed) (length texts - told)
  ahead =
      let h = ahead_of (drop at words) (length answers - row) (length (drop listed lists)) (length (drop told texts)) (sym on) in
      rw (← length-drop listed lists, ← length-drop told texts) h

  abbrev call : Call
  call = call_of (drop at words) (take (list_places (drop at words)) (drop listed lists)) (take (text_places (drop at words)) (drop told texts))

  -- the call as the code lends it its parts
  call_is :
      (places room : ℕ)
      → places ≡ list_places (drop at words)
      → room ≡ text_places (drop at words)
      → call_of (take (length words - at) (drop at words)) (take places (drop listed l)) (take room (drop told t))
      ≡ call
  call_is places room h k = rw (rest_is run, h, k, untouched run.listings, untouched run.tellings) refl

  -- What the code asks of the numbers on the way.

  pub rest_fits : size_of (take (length words - at) (drop at words)) ≤ length (take (length words - at) (drop at words))
  rest_fits = rw (rest_is run) ahead.whole

  pub rest_some : 0 < length (take (length words - at) (drop at words))
  rest_some = rw (rest_is run) (nonzero _ ahead.some)

  pub head_fits : head_of (word (take (length words - at) (drop at words)) 0) ≤ length (take (length words - at) (drop at words))
  head_fits = rw (rest_is run) (omega (arith, ahead.whole, size_is (drop at words)))

  pub advances : (size : ℕ) → size ≡ size_of (take (length words - at) (drop at words)) → 0 < size
  advances size h =
      omega (arith, h ∙ ap size_of (rest_is run), size_is (drop at words), nonzero (head_of (word (drop at words) 0)) ahead.known)

  pub row_fits : row + row_length ≤ length a
  row_fits = omega (arith, ahead.row, run.rowsfit, answers_length run)

  pub list_fits : (places : ℕ) → places ≡ list_places (take (length words - at) (drop at words)) → listed + places ≤ length l
  list_fits places h = omega (arith, ahead.list, run.listsfit, lists_length run, h ∙ ap list_places (rest_is run))

  pub text_fits : (room : ℕ) → room ≡ text_places (take (length words - at) (drop at words)) → told + room ≤ length t
  text_fits room h = omega (arith, ahead.text, run.textsfit, texts_length run, h ∙ ap text_places (rest_is run))

  pub lends :
      (places room ka kl kt : ℕ)
      → places ≡ list_places (take (length words - at) (drop at words))
      → room ≡ text_places (take (length words - at) (drop at words))
      → ka ≡ row_length
      → kl ≡ places
      → kt ≡ room
      → Lent (take (length words - at) (drop at words)) (take ka (drop row a)) (take kl (drop listed l)) (take kt (drop told t))
  lends places room ka kl kt hp hr ea el et =
      record {
        known = rw (rest_is run) ahead.known;
        whole = rest_fits;
        room = part_length row ka a (omega (arith, row_fits, ea)) ∙ ea;
        places = part_length listed kl l (omega (arith, list_fits places hp, el)) ∙ el ∙ hp;
        bytes = part_length told kt t (omega (arith, text_fits room hr, et)) ∙ et ∙ hr;
      }

  -- the call is made: the next turn
  pub turns :
      {state2 : State} {row2 list2 text2 : List ℕ} (size places room ka kl kt : ℕ)
      → size ≡ size_of (take (length words - at) (drop at words))
      → places ≡ list_places (take (length words - at) (drop at words))
      → room ≡ text_places (take (length words - at) (drop at words))
      → ka ≡ row_length
      → kl ≡ places
      → kt ≡ room
      → length row2 ≡ length (take ka (drop row a))
      → length list2 ≡ length (take kl (drop listed l))
      → length text2 ≡ length (take kt (drop told t))
      → Answered state (call_of (take (length words - at) (drop at words)) (take kl (drop listed l)) (take kt (drop told t))) state2 row2 list2 text2
      → Running s words answers lists texts state2 (made + 1) (at + size) (row + row_length) (listed + places) (told + room)
      (put_mid row ka a row2) (put_mid listed kl l list2) (put_mid told kt t text2)
  turns {state2} {row2} {list2} {text2} size places room ka kl kt hs hp hr ea el et na nl nt made-it =
      let hs2 : size ≡ size_of (drop at words) = hs ∙ ap size_of (rest_is run) in
      let hp2 : places ≡ list_places (drop at words) = hp ∙ ap list_places (rest_is run) in
      let hr2 : room ≡ text_places (drop at words) = hr ∙ ap text_places (rest_is run) in
      let x : Answered (state_from s run.done) call state2 row2 list2 text2 =
      subst (λ z. Answered z call state2 row2 list2 text2) run.reached
      (subst (λ z. Answered state z state2 row2 list2 text2) (call_is kl kt (el ∙ hp2) (et ∙ hr2)) made-it) in
      let next = reading_goes (drop at words) (length answers - row) (drop listed lists) (drop told texts) run.left (rest_short run) ahead.some on in
      let later : behind (drop at words) (length answers - row) (drop listed lists) (drop told texts) next.0
      ≡ reading next.0 (drop (at + size) words) (length answers - (row + row_length)) (drop (listed + places) lists) (drop (told + room) texts) =
      same_reading next.0
      (drop-drop (size_of (drop at words)) at words ∙ ap (λ n. drop (at + n) words) (sym hs2))
      (omega arith)
      (drop-drop (list_places (drop at words)) listed lists ∙ ap (λ n. drop (listed + n) lists) (sym hp2))
      (drop-drop (text_places (drop at words)) told texts ∙ ap (λ n. drop (told + n) texts) (sym hr2)) in
      let some : 0 < size = advances size hs in
      let whole : at + size ≤ length words = omega (arith, hs2, ahead.whole, length-drop at words, run.within) in
      record {
        done = run.done ++ (call ∷ []);
        left = next.0;
        enough = omega (arith, run.enough, next.1, some);
        within = whole;
        few = omega (arith, run.few, some);
        calls =
            run.calls ∙ ap (λ r. run.done ++ r.calls) next.2 ∙ sym (append_assoc run.done (call ∷ []) _)
            ∙ ap (λ r. (run.done ++ (call ∷ [])) ++ r.calls) later;
        end = run.end ∙ ap (λ r. r.end) next.2 ∙ ap (λ r. r.end) later;
        reached = x.left ∙ sym (state_more s run.done call);
        count = simp length-append (omega (arith, run.count));
        rows = wrote_more row_added s run.done call row2 x.said run.rows ka row_length ea (sym (na ∙ part_length row ka a (omega (arith, row_fits, ea)) ∙ ea));
        rowsfit = omega (arith, ahead.row, run.rowsfit);
        listings = wrote_more list_added s run.done call list2 x.listed run.listings kl places el (sym (nl ∙ part_length listed kl l (omega (arith, list_fits places hp, el)) ∙ el));
        listsfit = omega (arith, ahead.list, hp2, run.listsfit);
        tellings = wrote_more text_added s run.done call text2 x.told run.tellings kt room et (sym (nt ∙ part_length told kt t (omega (arith, text_fits room hr, et)) ∙ et));
        textsfit = omega (arith, ahead.text, hr2, run.textsfit);
      }

-- the length of a part
pub cancel : (i k : ℕ) → i + k - i ≡ k
cancel i k = omega arith

-- what is used of a slice is at most its length
pub used : {m n k : ℕ} → m ≡ n → k ≤ n → k ≤ m
used h l = omega (arith, h, l)

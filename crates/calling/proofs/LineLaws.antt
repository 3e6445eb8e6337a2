-- What the numbers of each kind of call say.
use Prim.Native.Nat.{ℕ, ◌+◌, ◌-◌, ◌≤◌, ◌<◌, min}
use mathlib.Core.Path.{◌≡◌, refl, sym, ◌∙◌, ap}
use mathlib.Core.Bool.{true, false}
use mathlib.Core.List.{List}
use Rattle.std.proofs.Common.{Some, None}
use native.Mathlib.Omega.{arith}
use lib.ListN.{length, take, drop, length-drop}
use lib.Seq.{take_all}
use borrow.Author.Tests.{eq-eqb, ne_eqb, le-leb, lt-leb}
use Rattle.laws.specs.Bools.{when◌then◌else◌}
use Rattle.laws.proofs.Bools.{case_bool, if_true, if_false}
use Rattle.rules.specs.declared.Setup.{Setup}
use Rattle.rules.specs.declared.Outcome.{Outcome}
use Rattle.rules.specs.declared.Outcome.TheVariants.{Success, Failure}
use Rattle.rules.specs.Answers.{outcome_number}
use Rattle.rules.specs.State.{at}
use Rattle.rules.specs.Calls.{job, pick, report, ask, board, outcome_of}
use Rattle.lines.specs.Names.{setup_name, job_name, pick_name, report_name, ask_name, board_name}
use Rattle.lines.specs.Words.{same_bytes}
use Rattle.lines.specs.Setups.{place_of_d, announced, count_place, setup_from}
use Rattle.lines.proofs.PutLaws.{take_min}
use Rattle.calling.specs.Meaning.{malformed, setup, call, setup_line, job_line, pick_line, report_line, ask_line, board_line}
use Rattle.calling.specs.Meaning.{call_line}

module _ (words : List ℕ) where
  -- set-up

  pub setup_malformed : None ≡ count_place words → setup_line words ≡ malformed
  unfolding setup_line count_place
  setup_malformed h = case_bool (announced words)
      (λ t. let z : None ≡ Some (place_of_d words) = h ∙ if_true _ _ t in absurd cc)
      (λ f. if_false _ _ f)

  pub setup_made : {p : ℕ} {u : Setup} → Some p ≡ count_place words → u ≡ setup_from words p → setup_line words ≡ setup u
  unfolding setup_line count_place
  setup_made {p} e q = case_bool (announced words)
      (λ t.
      let z : Some p ≡ Some (place_of_d words) = e ∙ if_true _ _ t in
      let d : p ≡ place_of_d words = cc in
      if_true _ _ t ∙ ap setup (sym (q ∙ ap (setup_from words) d)))
      (λ f. let z : Some p ≡ None = e ∙ if_false _ _ f in absurd cc)

  -- job

  module _ (list : List ℕ) where
    job_malformed : (length words ≡ 4 + at words 3 → ⊥) → job_line words list ≡ malformed
    unfolding job_line when◌then◌else◌
    job_malformed n = rw (ne_eqb (length words) (4 + at words 3) n) refl

    pub job_short : length words < 4 → job_line words list ≡ malformed
    job_short h = job_malformed (λ q. omega (arith, q))

    -- what stands behind the count
    abbrev behind_count : List ℕ
    behind_count = take (length words - 4) (drop 4 words)

    behind_whole : behind_count ≡ drop 4 words
    behind_whole = take_all (length words - 4) (drop 4 words) (omega (arith, length-drop 4 words))

    behind_long : length behind_count ≡ length words - 4
    behind_long = ap length behind_whole ∙ length-drop 4 words

    pub job_other : 4 ≤ length words → (at words 3 ≡ length behind_count → ⊥) → job_line words list ≡ malformed
    job_other h n = job_malformed (λ q. n (omega (arith, q, behind_long)))

    pub job_made :
        (k : ℕ) → 4 ≤ length words → at words 3 ≡ length behind_count → k ≡ min (at words 2) (length list)
        → job_line words list ≡ call (job (at words 0) (at words 1) behind_count (take k list))
    unfolding job_line when◌then◌else◌
    job_made k l h m =
        let f : length words ≡ 4 + at words 3 = omega (arith, h, behind_long) in
        rw (eq-eqb (length words) (4 + at words 3) f, behind_whole, take_min (at words 2) list m) refl

  -- pick

  pub pick_malformed : (length words ≡ 1 → ⊥) → pick_line words ≡ malformed
  unfolding pick_line when◌then◌else◌
  pick_malformed n = rw (ne_eqb (length words) 1 n) refl

  pub pick_made : length words ≡ 1 → pick_line words ≡ call (pick (at words 0))
  unfolding pick_line when◌then◌else◌
  pick_made h = rw (eq-eqb (length words) 1 h) refl

  -- report

  module _ (list : List ℕ) where
    pub report_malformed : (length words ≡ 5 → ⊥) → report_line words list ≡ malformed
    unfolding report_line when◌then◌else◌
    report_malformed n = rw (ne_eqb (length words) 5 n) refl

    pub report_other : length words ≡ 5 → 1 < at words 3 → report_line words list ≡ malformed
    unfolding report_line when◌then◌else◌
    report_other h n = rw (eq-eqb (length words) 5 h, lt-leb (at words 3) 1 n) refl

    pub report_made :
        (k : ℕ) (o : Outcome) → length words ≡ 5 → at words 3 ≤ 1 → o ≡ outcome_of (at words 3) → k ≡ min (at words 4) (length list)
        → report_line words list ≡ call (report (at words 0) (at words 1) (at words 2) o (take k list))
    unfolding report_line when◌then◌else◌
    report_made k o h l u m = rw (eq-eqb (length words) 5 h, le-leb (at words 3) 1 l, u, take_min (at words 4) list m) refl

  -- ask

  pub ask_malformed : (length words ≡ 1 → ⊥) → ask_line words ≡ malformed
  unfolding ask_line when◌then◌else◌
  ask_malformed n = rw (ne_eqb (length words) 1 n) refl

  pub ask_made : length words ≡ 1 → ask_line words ≡ call (ask (at words 0))
  unfolding ask_line when◌then◌else◌
  ask_made h = rw (eq-eqb (length words) 1 h) refl

  -- board text

  module _ (text : List ℕ) where
    pub board_malformed : (length words ≡ 1 → ⊥) → board_line words text ≡ malformed
    unfolding board_line when◌then◌else◌
    board_malformed n = rw (ne_eqb (length words) 1 n) refl

    pub board_made : (k : ℕ) → length words ≡ 1 → k ≡ min (at words 0) (length text) → board_line words text ≡ call (board (take k text))
    unfolding board_line when◌then◌else◌
    board_made k h m = rw (eq-eqb (length words) 1 h, take_min (at words 0) text m) refl

-- A name and its numbers.

module _ (name words list text : List ℕ) where
  pub call_setup : same_bytes name setup_name ≡ true → call_line name words list text ≡ setup_line words
  unfolding call_line
  call_setup a = if_true _ _ a

  module _ (a : same_bytes name setup_name ≡ false) where
    pub call_job : same_bytes name job_name ≡ true → call_line name words list text ≡ job_line words list
    unfolding call_line
    call_job b = if_false _ _ a ∙ if_true _ _ b

    module _ (b : same_bytes name job_name ≡ false) where
      pub call_pick : same_bytes name pick_name ≡ true → call_line name words list text ≡ pick_line words
      unfolding call_line
      call_pick c = if_false _ _ a ∙ if_false _ _ b ∙ if_true _ _ c

      module _ (c : same_bytes name pick_name ≡ false) where
        pub call_report : same_bytes name report_name ≡ true → call_line name words list text ≡ report_line words list
        unfolding call_line
        call_report d = if_false _ _ a ∙ if_false _ _ b ∙ if_false _ _ c ∙ if_true _ _ d

        module _ (d : same_bytes name report_name ≡ false) where
          pub call_ask : same_bytes name ask_name ≡ true → call_line name words list text ≡ ask_line words
          unfolding call_line
          call_ask e = if_false _ _ a ∙ if_false _ _ b ∙ if_false _ _ c ∙ if_false _ _ d ∙ if_true _ _ e

          module _ (e : same_bytes name ask_name ≡ false) where
            pub call_board : same_bytes name board_name ≡ true → call_line name words list text ≡ board_line words text
            unfolding call_line
            call_board f = if_false _ _ a ∙ if_false _ _ b ∙ if_false _ _ c ∙ if_false _ _ d ∙ if_false _ _ e ∙ if_true _ _ f

            pub call_none : same_bytes name board_name ≡ false → call_line name words list text ≡ malformed
            unfolding call_line
            call_none f = if_false _ _ a ∙ if_false _ _ b ∙ if_false _ _ c ∙ if_false _ _ d ∙ if_false _ _ e ∙ if_false _ _ f

-- The outcome that a number tells.
pub outcome_told : (o : Outcome) {n : ℕ} → n ≡ outcome_number o → (n ≤ 1) × (o ≡ outcome_of n)
unfolding outcome_of when◌then◌else◌
outcome_told Success e = (omega (arith, e), rw e refl)
outcome_told Failure e = (omega (arith, e), rw e refl)

-- A7: "Tell me why the number moved". When each word is right, of a destination as the step found it and as it left it, and what is claimed of every
-- accepted report.
use Rattle.std.specs.Prelude.{ℕ, ◌<◌, ◌≡◌, List}
use Rattle.rules.specs.declared.Sums.{Sums}
use Rattle.rules.specs.declared.Health.{Health}
use Rattle.rules.specs.declared.Health.TheVariants.{Live, Dead}
use Rattle.rules.specs.declared.State.{State}
use Rattle.rules.specs.declared.Outcome.{Outcome}
use Rattle.rules.specs.declared.Outcome.TheVariants.{Success}
use Rattle.rules.specs.declared.Move.{Move}
use Rattle.rules.specs.State.{at, health_of, destination_of}
use Rattle.rules.specs.Windows.{move_number, woken}
use Rattle.rules.specs.Refusals.{report_refusal}
use Rattle.rules.specs.Calls.{report_reply}

-- "a live window ends larger .. than the step found it"
abbrev pub EndsLarger : Health → Health → Type 0
EndsLarger found left = (u : Sums) × (v : Sums) × (found ≡ Live u) × (left ≡ Live v) × (u.window < v.window)

-- ".. or smaller"
abbrev pub EndsSmaller : Health → Health → Type 0
EndsSmaller found left = (u : Sums) × (v : Sums) × (found ≡ Live u) × (left ≡ Live v) × (v.window < u.window)

-- "it died in the step"
abbrev pub Died : Health → Health → Type 0
Died found left = (u : Sums) × (end : ℕ) × (found ≡ Live u) × (left ≡ Dead end)

-- "a success found it dead"
abbrev pub SuccessFoundDead : Outcome → Health → Type 0
SuccessFoundDead outcome found = (end : ℕ) × (outcome ≡ Success) × (found ≡ Dead end)

-- "all else is unchanged"
abbrev pub When : Move → Outcome → Health → Health → Type 0
When Move.Unchanged outcome found left =
    (EndsLarger found left → ⊥) × (EndsSmaller found left → ⊥) × (Died found left → ⊥) × (SuccessFoundDead outcome found → ⊥)
When Move.Raised outcome found left = EndsLarger found left
When Move.Lowered outcome found left = EndsSmaller found left
When Move.Dead outcome found left = Died found left
When Move.Revived outcome found left = SuccessFoundDead outcome found

-- of a report with these values
pub record Told (outcome : Outcome) (found left : Health) (values : List ℕ) : Type 0 where
  -- it tells a case exactly when that is right
  pub tells : (m : Move) → at values 1 ≡ move_number m → When m outcome found left
  pub told : (m : Move) → When m outcome found left → at values 1 ≡ move_number m
  -- one of the five is right
  pub covered : (m : Move) × When m outcome found left
  -- and no two are
  pub once : (m k : Move) → When m outcome found left → When k outcome found left → m ≡ k
  -- nothing is put off unless it died
  pub kept : (Died found left → ⊥) → at values 0 ≡ 0

-- of every accepted report, of any state: the step finds the destination as waking left it
abbrev pub WhyMoved : Type 0
WhyMoved =
    (s : State) (now e ticket : ℕ) (outcome : Outcome) (list : List ℕ)
    → report_refusal s now e ticket list ≡ 0
    → Told outcome (health_of (woken s now) (destination_of s e)) (health_of (report_reply s now e ticket outcome list).state (destination_of s e))
    (report_reply s now e ticket outcome list).says.values

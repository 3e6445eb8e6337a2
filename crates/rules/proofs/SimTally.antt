-- A preemption in the tally's rows, and in the columns.
use Prim.Native.Nat.{ℕ, suc, ◌+◌, ◌<◌}
use mathlib.Core.Path.{◌≡◌, refl, sym, ◌∙◌, ap, subst}
use mathlib.Core.List.{List}
use lib.ListN.{length, length-set}
use Rattle.laws.specs.Chain.{along_chain}
use Rattle.laws.specs.Update.{upd}
use Rattle.laws.proofs.Update.{upd_all}
use Rattle.laws.proofs.Chain.{along_keeps, along_related, along_same}
use Rattle.ceiling.specs.Steps.{overtake}
use Rattle.rules.specs.Tally.{Row, row_at, with_notes, overtaken_by, naming, overtaken}
use Rattle.rules.proofs.SimRows.{row_same, row_other, row_field}

-- the rows but for their overtakers and whom they name
abbrev apart : Row → Row
apart r = with_notes r 0 0 r.past r.lastpick r.lasttotal r.lastpast

-- what a preemption leaves alone
pub record Alike (rows other : List Row) : Type 0 where
  pub length : length other ≡ length rows
  pub rest : (k : ℕ) → apart (row_at other k) ≡ apart (row_at rows k)

pub alike_jobs : {rows other : List Row} → Alike rows other → (k : ℕ) → (row_at other k).job ≡ (row_at rows k).job
alike_jobs a k = ap (λ r. r.job) (a.rest k)

pub alike_transport : {rows other : List Row} → Alike rows other → (k : ℕ) → (row_at other k).transport ≡ (row_at rows k).transport
alike_transport a k = ap (λ r. r.transport) (a.rest k)

-- X's row names Y's

module _ (rows : List Row) (i link : ℕ) where
  pub naming_alike : Alike rows (naming i link rows)
  unfolding naming
  naming_alike = record { length = length-set rows i _; rest = row_field rows i _ apart refl }

  pub naming_overtakers : (k : ℕ) → (row_at (naming i link rows) k).overtakers ≡ (row_at rows k).overtakers
  unfolding naming
  naming_overtakers = row_field rows i _ (λ r. r.overtakers) refl

  pub naming_names : i < length rows → (k : ℕ) → (row_at (naming i link rows) k).names ≡ upd (λ k. (row_at rows k).names) i link k
  unfolding naming
  naming_names l =
      upd_all (λ k v. (row_at (naming i link rows) k).names ≡ v) (λ k. (row_at rows k).names) i link
      (ap (λ r. r.names) (row_same rows i _ l)) (λ k ne. ap (λ r. r.names) (row_other rows i _ k ne))

-- the rows up the chain are overtaken

alike_step : (m i : ℕ) {rows other : List Row} → Alike rows other → Alike rows (overtaken_by m i other)
unfolding overtaken_by
alike_step m i {rows} {other} a = record { length = length-set other i _ ∙ a.length; rest = λ k. row_field other i _ apart refl k ∙ a.rest k }

module _ (link m : ℕ) (rows : List Row) where
  overtaken_alike : Alike rows (overtaken link m rows)
  unfolding overtaken
  overtaken_alike =
      along_keeps (λ i. (row_at rows i).names) (overtaken_by m) (λ x. Unit {0}) (Alike rows) (λ x y o e. tt) (λ x a o h. alike_step m x h)
      (length rows) link rows (λ x e. tt)
      (record { length = refl; rest = λ k. refl })

  pub overtaken_names : (k : ℕ) → (row_at (overtaken link m rows) k).names ≡ (row_at rows k).names
  unfolding overtaken
  overtaken_names =
      along_keeps (λ i. (row_at rows i).names) (overtaken_by m) (λ x. Unit {0}) (λ other. (k : ℕ) → (row_at other k).names ≡ (row_at rows k).names) (λ x y o e. tt)
      (λ x a o h k. unfold overtaken_by in row_field a x _ (λ r. r.names) refl k ∙ h k) (length rows) link rows (λ x e. tt) (λ k. refl)

-- both: row x names row y, and the rows from there on are overtaken
pub preempted_alike : (x link m : ℕ) (rows : List Row) → Alike rows (overtaken link m (naming x link rows))
preempted_alike x link m rows =
    let first = naming_alike rows x link in
    let then = overtaken_alike link m (naming x link rows) in
    record { length = then.length ∙ first.length; rest = λ k. then.rest k ∙ first.rest k }

-- the overtakers of the rows are those of a column
abbrev Overs : ℕ → List Row → (ℕ → ℕ) → Type 0
Overs n rows over = (length rows ≡ n) × ((k : ℕ) → k < n → (row_at rows k).overtakers ≡ over k)

overs_step : (m n x : ℕ) (rows : List Row) (over : ℕ → ℕ) → x < n → Overs n rows over → Overs n (overtaken_by m x rows) (overtake m x over)
unfolding overtaken_by
overs_step m n x rows over l (e, h) = (
  length-set rows x _ ∙ e,
  upd_all (λ k v. k < n → (row_at (overtaken_by m x rows) k).overtakers ≡ v) over x (over x + m)
      (λ b. ap (λ r. r.overtakers) (row_same rows x _ (subst (λ n. x < n) (sym e) l)) ∙ ap (λ v. v + m) (h x l))
      (λ k ne b. ap (λ r. r.overtakers) (row_other rows x _ k ne) ∙ h k b),
)

pub overtaken_column : (next : ℕ → ℕ) (link m n : ℕ) (rows : List Row) (over : ℕ → ℕ) → length rows ≡ n
    → ((k : ℕ) → k < n → (row_at rows k).overtakers ≡ over k) → ((k : ℕ) → k < n → (row_at rows k).names ≡ next k)
    → ((x y : ℕ) → x < n → next x ≡ suc y → y < n) → ((x : ℕ) → link ≡ suc x → x < n) → (k : ℕ) → k < n
    → (row_at (overtaken link m rows) k).overtakers ≡ along_chain next (overtake m) n link over k
unfolding overtaken
overtaken_column next link m n rows over e h names closed start k l =
    (along_related (Overs n) (λ i. (row_at rows i).names) (overtaken_by m) (overtake m) (λ x. x < n)
    (λ x y b q. closed x y b (sym (names x b) ∙ q)) (λ x a c b r. overs_step m n x a c b r) (length rows) link rows over start (e, h)).1 k l
    ∙ ap (λ f. f k)
    (along_same (λ i. (row_at rows i).names) next (λ x. x < n) (λ x y b q. closed x y b (sym (names x b) ∙ q)) names (overtake m) (length rows) link over start
    ∙ ap (λ z. along_chain next (overtake m) z link over) e)

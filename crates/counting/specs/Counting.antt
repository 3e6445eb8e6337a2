-- "Sound means", the clause of the entries, and the counts that the other clauses speak of, over the columns that the code reads.
use Rattle.std.specs.Prelude.{ℕ, ◌+◌, ◌*◌, ◌<◌, ◌≡◌, Bool, true, false, ◌&&◌, ◌||◌, List, length, get_or, replicate, eqb, ltb, Option, is_some, IfSome}
use Rattle.laws.specs.Range.{all_to, count_to}
use Rattle.rules.specs.State.{at}
use Rattle.counting.specs.declared.EntryCounts.{EntryCounts}

-- what the pass over the entries reads
pub record Columns : Type 0 where
  pub kind : List ℕ
  pub job : List ℕ
  pub destination : List ℕ
  pub present : List Bool
  pub transport : List ℕ
  pub home : List ℕ
  pub destinations : ℕ
  pub marked : List Bool

abbrev pub columns : List ℕ → List ℕ → List ℕ → List Bool → List ℕ → List ℕ → ℕ → List Bool → Columns
columns kind job destination present transport home destinations marked =
    record {
      kind = kind;
      job = job;
      destination = destination;
      present = present;
      transport = transport;
      home = home;
      destinations = destinations;
      marked = marked;
    }

-- job j is present, on the transport of destination d, and its order has the destination
unfoldable pub belongs_at : List Bool → List ℕ → List ℕ → ℕ → List Bool → ℕ → ℕ → Bool
belongs_at present transport home destinations marked j d =
    get_or present j false && ltb d destinations && eqb (at transport j) (at home d) && get_or marked (256 * j + d) false

-- the entry belongs to a present job of its destination's transport, whose order has the destination
unfoldable pub belongs_test : Columns → ℕ → Bool
belongs_test k e = belongs_at k.present k.transport k.home k.destinations k.marked (at k.job e) (at k.destination e)

unfoldable pub entry_test : Columns → ℕ → Bool
entry_test k e = eqb (at k.kind e) 0 || (eqb (at k.kind e) 1 || eqb (at k.kind e) 2) && belongs_test k e

-- how many of the first n entries are of this kind, with this key
unfoldable pub counts_to : List ℕ → ℕ → (ℕ → ℕ) → ℕ → ℕ → ℕ
counts_to kind v key n x = count_to (λ e. eqb (at kind e) v && eqb (key e) x) n

-- the table holds that number at each x below m
pub record Counts (kind : List ℕ) (v : ℕ) (key : ℕ → ℕ) (m n : ℕ) (table : List ℕ) : Type 0 where
  pub size : length table ≡ m
  pub counts : (x : ℕ) → x < m → at table x ≡ counts_to kind v key n x

-- of each job and destination, how many of the job's entries wait for it
abbrev pub Paired : List ℕ → List ℕ → List ℕ → List ℕ → Type 0
Paired kind job destination table = Counts kind 1 (λ e. 32 * at job e + at destination e) 1024 512 table

-- the table as it comes, before an entry is counted
abbrev pub no_pairs : List ℕ
no_pairs = replicate 1024 0

-- .. and as it is left: counted where all is right, else as it came
pub record Pairs (right : Bool) (kind job destination table : List ℕ) : Type 0 where
  pub counted : right ≡ true → Paired kind job destination table
  pub none : right ≡ false → table ≡ no_pairs

-- the five tables of the answer after n entries
pub record Tables (k : Columns) (n : ℕ) (w b h t o : List ℕ) : Type 0 where
  pub waiting : Counts k.kind 1 (at k.job) 32 n w
  pub busy : Counts k.kind 2 (at k.job) 32 n b
  pub held : Counts k.kind 1 (at k.destination) 32 n h
  pub to : Counts k.kind 2 (at k.destination) 32 n t
  pub on : Counts k.kind 2 (λ e. at k.home (at k.destination e)) 4 n o

-- every entry is good, and the tables count them; or one is not, and nothing is told
pub record RightCounts (k : Columns) (r : Option EntryCounts) : Type 0 where
  pub right : is_some r ≡ all_to (entry_test k) 512
  pub tables : IfSome r (λ c. Tables k 512 c.waiting c.busy c.held c.to c.on)

-- Request A5, "Cut recipients into entries for us": the groups that a list of (destination, recipient) pairs makes, by its destinations, in pair order.
use Rattle.std.specs.Prelude.{ℕ, ◌+◌, ◌*◌, ◌/◌, List, [], ◌∷◌, ◌++◌, length, replicate, eqb}
use Rattle.laws.specs.Fractions.{rounded_up}
use Rattle.laws.specs.Range.{count_to, table_to}
use Rattle.laws.specs.Sequence.{up_to, firsts_to}
use Rattle.rules.specs.State.{at}

-- "(destination, recipient) pairs": one flat list, two numbers a pair. A recipient is not looked at.
unfoldable pub destinations_of : List ℕ → List ℕ
destinations_of pairs = table_to (λ i. at pairs (2 * i)) (length pairs / 2)

-- how many of the first n pairs are to d
unfoldable pub pairs_to : List ℕ → ℕ → ℕ → ℕ
pairs_to dests d n = count_to (λ i. eqb (at dests i) d) n

-- "at most that many recipients", and "a group is filled before the next is begun": how many groups d has
unfoldable pub groups_to : ℕ → List ℕ → ℕ → ℕ
groups_to limit dests d = rounded_up (pairs_to dests d (length dests)) limit

-- the groups of one destination after the other, by the destination of each group
unfoldable pub blocks : ℕ → List ℕ → List ℕ → List ℕ
blocks limit dests [] = []
blocks limit dests (d ∷ order) = replicate (groups_to limit dests d) d ++ blocks limit dests order

-- "Each group is one entry to one destination", "Groups come by first appearance of the destination": the destinations of a job with an entry for each group
unfoldable pub entries_of : ℕ → List ℕ → List ℕ
entries_of limit dests = blocks limit dests (firsts_to dests (length dests))

-- "the number of groups"
unfoldable pub group_count : ℕ → List ℕ → ℕ
group_count limit dests = length (entries_of limit dests)

-- the group of pair i, "from 0": the first of its destination's, and one further for each limit of pairs to it before, "recipients in given order"
unfoldable pub group_of : ℕ → List ℕ → ℕ → ℕ
group_of limit dests i = length (up_to (at dests i) (entries_of limit dests)) + pairs_to dests (at dests i) i / limit

-- "each pair's group number .., in pair order"
unfoldable pub group_numbers : ℕ → List ℕ → List ℕ
group_numbers limit dests = table_to (group_of limit dests) (length dests)

-- Request A5, the call: from the state and all arguments, the lent list's contents among them, to what it answers and what the list then holds.
use Rattle.std.specs.Prelude.{ℕ, ◌%◌, Bool, not, ◌&&◌, List, [], ◌∷◌, length, Result, eqb, ltb, leb}
use Rattle.laws.specs.Bools.{when◌then◌else◌}
use Rattle.laws.specs.Sequence.{every_in}
use Rattle.rules.specs.declared.State.{State}
use Rattle.rules.specs.declared.Refusal.{Refusal}
use Rattle.rules.specs.Sizes.{max_length}
use Rattle.rules.specs.Setup.{within}
use Rattle.rules.specs.Sound.{sound}
use Rattle.rules.specs.Refusals.{is_destination_on}
use Rattle.rules.specs.Calls.{Reply, granted, written, unless_refused}
use Rattle.rules.specs.Answers.{number_says}
use Rattle.recipients.specs.Groups.{destinations_of, group_count, group_numbers}

-- "its recipient limit 1 to 50"
abbrev pub max_recipients : ℕ
max_recipients = 50

-- "up to 512 .. pairs"
abbrev pub max_pairs : ℕ
max_pairs = 512

-- 5, the other way round: not "empty, over 512" and not "more than 256 groups by destination number alone". With a surplus number it is no list of pairs.
unfoldable pub can_be_cut : ℕ → List ℕ → Bool
can_be_cut limit pairs =
    eqb (length pairs % 2) 0
    && within 1 max_pairs (length (destinations_of pairs))
    && leb (group_count limit (destinations_of pairs)) max_length

-- "a missing or foreign destination gets 6, a limit outside the range gets 2, 1 and 4 apply as for a job, all in rising order. A second lent list ..;
-- shorter than the pairs is 10"
unfoldable pub group_refusal : State → ℕ → ℕ → List ℕ → List ℕ → ℕ
group_refusal s t limit pairs list =
    when not (sound s) then 1
    else when not (within 1 max_recipients limit) then 2
    else when not (ltb t s.setup.transports) then 4
    else when not (can_be_cut limit pairs) then 5
    else when not (every_in (is_destination_on s t) (destinations_of pairs)) then 6
    else when ltb (length list) (length (destinations_of pairs)) then 10
    else 0

-- "The answer is the number of groups; no job is taken and all else stays."
unfoldable pub group_reply : State → ℕ → ℕ → List ℕ → List ℕ → Reply
group_reply s t limit pairs list =
    unless_refused (group_refusal s t limit pairs list) s list
    (record {
      says = granted (group_count limit (destinations_of pairs) ∷ []);
      state = s;
      buffer = written (group_numbers limit (destinations_of pairs)) list;
    })

-- what the call gave back, the number of groups or a refusal, to be compared with the reply. It takes the state by value and hands none back: that is
-- the caller's, as it was.
abbrev pub group_gave : Result ℕ Refusal → State → List ℕ → Reply
group_gave a s list = record { says = number_says a; state = s; buffer = list }

-- Document 01, "Refusal numbers": each call's refusal, tested in the order of the table; 0 for none.
use Rattle.std.specs.Prelude.{ℕ, Bool, not, ◌&&◌, ◌||◌, List, length, eqb, ltb}
use Rattle.laws.specs.Bools.{when◌then◌else◌}
use Rattle.laws.specs.Range.{all_to, count_to}
use Rattle.laws.specs.Sequence.{every_in}
use Rattle.rules.specs.declared.Setup.{Setup}
use Rattle.rules.specs.declared.State.{State}
use Rattle.rules.specs.Sizes.{last_second, max_jobs, max_entries, max_length}
use Rattle.rules.specs.State.{at, transport_of, is_free, is_busy, is_present}
use Rattle.rules.specs.Setup.{within, setup_in_range}
use Rattle.rules.specs.Sound.{sound}
use Rattle.rules.specs.Windows.{woken}
use Rattle.rules.specs.Taking.{n_of}
use Rattle.rules.specs.Board.{board_text}

-- 3: "the clock is earlier than the last accepted one, or above 2^32-1"
unfoldable pub bad_clock : State → ℕ → Bool
bad_clock s now = ltb now s.clock || ltb last_second now

-- 6, the other way round: the destination exists and is this transport's
unfoldable pub is_destination_on : State → ℕ → ℕ → Bool
is_destination_on s t d = ltb d s.setup.destinations && eqb (transport_of s d) t

-- 7: "32 jobs present", where an entry must wait
unfoldable pub lacks_number : State → List ℕ → Bool
lacks_number s dests = ltb 0 (n_of s dests) && all_to (is_present s) max_jobs

-- 8: "fewer free entry places than entries that must wait"
unfoldable pub lacks_places : State → List ℕ → Bool
lacks_places s dests = ltb (count_to (is_free s) max_entries) (n_of s dests)

-- 9, the other way round: the entry is busy with this ticket
unfoldable pub is_busy_with : State → ℕ → ℕ → Bool
is_busy_with s e ticket = ltb e max_entries && is_busy s e && eqb (at s.entries.ticket e) ticket

-- "set-up 2"
unfoldable pub setup_refusal : Setup → ℕ
setup_refusal u = when setup_in_range u then 0 else 2

-- "job 1, 3 to 8, 10"; 7 and 8 read the state after waking
unfoldable pub job_refusal : State → ℕ → ℕ → List ℕ → List ℕ → ℕ
job_refusal s now t dests list =
    when not (sound s) then 1
    else when bad_clock s now then 3
    else when not (ltb t s.setup.transports) then 4
    else when not (within 1 max_length (length dests)) then 5
    else when not (every_in (is_destination_on s t) dests) then 6
    else when lacks_number (woken s now) dests then 7
    else when lacks_places (woken s now) dests then 8
    else when ltb (length list) (length dests) then 10
    else 0

-- "pick 1, 3"
unfoldable pub pick_refusal : State → ℕ → ℕ
pick_refusal s now =
    when not (sound s) then 1
    else when bad_clock s now then 3
    else 0

-- "report 1, 3, 9, 10"
unfoldable pub report_refusal : State → ℕ → ℕ → ℕ → List ℕ → ℕ
report_refusal s now e ticket list =
    when not (sound s) then 1
    else when bad_clock s now then 3
    else when not (is_busy_with s e ticket) then 9
    else when ltb (length list) max_entries then 10
    else 0

-- "asking about a job 1, 11"
unfoldable pub ask_refusal : State → ℕ → ℕ
ask_refusal s j =
    when not (sound s) then 1
    else when not (is_present s j) then 11
    else 0

-- "board text 1, 10"
unfoldable pub board_refusal : State → List ℕ → ℕ
board_refusal s buffer =
    when not (sound s) then 1
    else when ltb (length buffer) (length (board_text s)) then 10
    else 0

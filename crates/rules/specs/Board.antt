-- Document 01, "Board text", as bytes.
use Rattle.std.specs.Prelude.{ℕ, zero, suc, ◌+◌, ◌/◌, ◌%◌, List, [], ◌∷◌, ◌++◌, get_or, ltb}
use Rattle.laws.specs.Bools.{when◌then◌else◌}
use Rattle.rules.specs.declared.Health.{Health}
use Rattle.rules.specs.declared.Health.TheVariants.{Live, Dead}
use Rattle.rules.specs.declared.Destination.{Destination}
use Rattle.rules.specs.declared.State.{State}
use Rattle.rules.specs.State.{at, zero_destination}

-- "Numbers are decimal without leading zeros": those of at most n + 1 digits
unfoldable pub decimal_in : ℕ → ℕ → List ℕ
decimal_in zero x = (48 + x % 10) ∷ []
decimal_in (suc n) x = when ltb x 10 then (48 + x) ∷ [] else decimal_in n (x / 10) ++ ((48 + x % 10) ∷ [])

-- a number below 2^64 has at most 20 digits
unfoldable pub decimal : ℕ → List ℕ
decimal x = decimal_in 19 x

-- "AT", "D", "the four bytes LIVE or DEAD"; the blank that parts, and the end of a line, byte 10
abbrev pub at_word : List ℕ
at_word = 65 ∷ 84 ∷ []

abbrev pub line_word : List ℕ
line_word = 68 ∷ []

abbrev pub live_word : List ℕ
live_word = 76 ∷ 73 ∷ 86 ∷ 69 ∷ []

abbrev pub dead_word : List ℕ
dead_word = 68 ∷ 69 ∷ 65 ∷ 68 ∷ []

abbrev pub blank : List ℕ
blank = 32 ∷ []

abbrev pub line_end : List ℕ
line_end = 10 ∷ []

-- a number, and the blank before it
abbrev pub numbered : ℕ → List ℕ
numbered x = blank ++ decimal x

-- "`AT` and the last accepted clock"
unfoldable pub clock_line : ℕ → List ℕ
clock_line clock = at_word ++ numbered clock ++ line_end

-- "the four bytes LIVE or DEAD, then window and busy, or the end second"
unfoldable pub health_text : Health → ℕ → List ℕ
health_text (Live u) busy = live_word ++ numbered u.window ++ numbered busy
health_text (Dead end) busy = dead_word ++ numbered end

-- "one line a destination .. : number, .."
unfoldable pub destination_line : ℕ → Health → ℕ → List ℕ
destination_line d h busy = line_word ++ numbered d ++ blank ++ health_text h busy ++ line_end

-- "rising": the lines of the destinations below n
unfoldable pub lines_of : List Destination → List ℕ → ℕ → List ℕ
lines_of ds busy zero = []
lines_of ds busy (suc d) = lines_of ds busy d ++ destination_line d (get_or ds d zero_destination).health (at busy d)

-- the text of a clock and so many destinations, with their busy counts
unfoldable pub text_of : ℕ → ℕ → List Destination → List ℕ → List ℕ
text_of clock count ds busy = clock_line clock ++ lines_of ds busy count

unfoldable pub board_text : State → List ℕ
board_text s = text_of s.clock s.setup.destinations s.destinations s.busy.destination

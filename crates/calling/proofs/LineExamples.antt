-- Some lines of the console, with what they say, and some replies, with their texts: the definitions computed.
use Prim.Native.Nat.{ℕ}
use mathlib.Core.Path.{◌≡◌, refl}
use mathlib.Core.List.{List, [], ◌∷◌}
use Rattle.laws.specs.Bools.{when◌then◌else◌}
use Rattle.laws.specs.Sequence.{every_in}
use Rattle.rules.specs.declared.Outcome.{Outcome}
use Rattle.rules.specs.Setup.{zero_state}
use Rattle.rules.specs.Board.{decimal_in, decimal}
use Rattle.rules.specs.Calls.{Says, Reply, job, pick, report, ask, board, outcome_of, refused, granted}
use Rattle.lines.specs.Words.{longer, pieces, not_empty, words_of, same_bytes, value_from, value_of, is_number, all_numbers}
use Rattle.lines.specs.Texts.{numbers, shown_byte}
use Rattle.calling.specs.Meaning.{nothing, malformed, call, job_line, pick_line, report_line, call_line, meaning_of_words, meaning_of}
use Rattle.calling.specs.Replies.{values_text, reply_text}

pub lines_say :
    -- "pick 12", with blanks before it, between and behind
    (meaning_of (32 ∷ 112 ∷ 105 ∷ 99 ∷ 107 ∷ 32 ∷ 32 ∷ 49 ∷ 50 ∷ 32 ∷ []) [] [] ≡ call (pick 12))
    -- "job 5 1 2 1 3", lent the first two places of the list
    × (meaning_of (106 ∷ 111 ∷ 98 ∷ 32 ∷ 53 ∷ 32 ∷ 49 ∷ 32 ∷ 50 ∷ 32 ∷ 49 ∷ 32 ∷ 51 ∷ []) (7 ∷ 8 ∷ 9 ∷ []) [] ≡ call (job 5 1 (3 ∷ []) (7 ∷ 8 ∷ [])))
    -- "job 5 1 2 2 3": a destination is missing
    × (meaning_of (106 ∷ 111 ∷ 98 ∷ 32 ∷ 53 ∷ 32 ∷ 49 ∷ 32 ∷ 50 ∷ 32 ∷ 50 ∷ 32 ∷ 51 ∷ []) (7 ∷ 8 ∷ 9 ∷ []) [] ≡ malformed)
    -- "report 4 6 9 1 8", a failure, lent all of a shorter list
    × (meaning_of (114 ∷ 101 ∷ 112 ∷ 111 ∷ 114 ∷ 116 ∷ 32 ∷ 52 ∷ 32 ∷ 54 ∷ 32 ∷ 57 ∷ 32 ∷ 49 ∷ 32 ∷ 56 ∷ []) (7 ∷ []) []
    ≡ call (report 4 6 9 Outcome.Failure (7 ∷ [])))
    -- "pick 1x": no number
    × (meaning_of (112 ∷ 105 ∷ 99 ∷ 107 ∷ 32 ∷ 49 ∷ 120 ∷ []) [] [] ≡ malformed)
    -- "#pick 1", and a line of blanks
    × (meaning_of (35 ∷ 112 ∷ 105 ∷ 99 ∷ 107 ∷ 32 ∷ 49 ∷ []) [] [] ≡ nothing)
    × (meaning_of (32 ∷ 32 ∷ []) [] [] ≡ nothing)
unfolding longer pieces not_empty words_of same_bytes value_from value_of is_number all_numbers every_in when◌then◌else◌ job_line pick_line report_line outcome_of call_line meaning_of_words meaning_of
lines_say = (refl, refl, refl, refl, refl, refl, refl)

-- a reply that says this, with this in the buffer
abbrev saying : Says → List ℕ → Reply
saying w buffer = record { says = w; state = zero_state; buffer = buffer }

pub replies_say :
    -- "job 7 2 0 3": of the list, only the places that were written
    (reply_text (job 0 0 [] []) (saying (granted (7 ∷ 2 ∷ [])) (0 ∷ 3 ∷ 9 ∷ [])) ≡ 106 ∷ 111 ∷ 98 ∷ 32 ∷ 55 ∷ 32 ∷ 50 ∷ 32 ∷ 48 ∷ 32 ∷ 51 ∷ 10 ∷ [])
    -- "nojob 1 0"
    × (reply_text (job 0 0 [] []) (saying (granted (1 ∷ [])) (0 ∷ 9 ∷ [])) ≡ 110 ∷ 111 ∷ 106 ∷ 111 ∷ 98 ∷ 32 ∷ 49 ∷ 32 ∷ 48 ∷ 10 ∷ [])
    -- "pick 1 2 3 4"
    × (reply_text (pick 0) (saying (granted (1 ∷ 2 ∷ 3 ∷ 4 ∷ [])) []) ≡ 112 ∷ 105 ∷ 99 ∷ 107 ∷ 32 ∷ 49 ∷ 32 ∷ 50 ∷ 32 ∷ 51 ∷ 32 ∷ 52 ∷ 10 ∷ [])
    -- "nopick 0"
    × (reply_text (pick 0) (saying (granted (0 ∷ [])) []) ≡ 110 ∷ 111 ∷ 112 ∷ 105 ∷ 99 ∷ 107 ∷ 32 ∷ 48 ∷ 10 ∷ [])
    -- "report 1 5 dead"
    × (reply_text (report 0 0 0 Outcome.Failure []) (saying (granted (1 ∷ 3 ∷ [])) (5 ∷ 9 ∷ []))
    ≡ 114 ∷ 101 ∷ 112 ∷ 111 ∷ 114 ∷ 116 ∷ 32 ∷ 49 ∷ 32 ∷ 53 ∷ 32 ∷ 100 ∷ 101 ∷ 97 ∷ 100 ∷ 10 ∷ [])
    -- "ask 6"
    × (reply_text (ask 0) (saying (granted (6 ∷ [])) []) ≡ 97 ∷ 115 ∷ 107 ∷ 32 ∷ 54 ∷ 10 ∷ [])
    -- "board 3 A|B", of the bytes A, 10, B
    × (reply_text (board []) (saying (granted (3 ∷ [])) (65 ∷ 10 ∷ 66 ∷ 67 ∷ [])) ≡ 98 ∷ 111 ∷ 97 ∷ 114 ∷ 100 ∷ 32 ∷ 51 ∷ 32 ∷ 65 ∷ 124 ∷ 66 ∷ 10 ∷ [])
    -- "refused 10"
    × (reply_text (board []) (saying (refused 10) []) ≡ 114 ∷ 101 ∷ 102 ∷ 117 ∷ 115 ∷ 101 ∷ 100 ∷ 32 ∷ 49 ∷ 48 ∷ 10 ∷ [])
unfolding numbers shown_byte decimal_in decimal when◌then◌else◌ values_text reply_text
replies_say = (refl, refl, refl, refl, refl, refl, refl, refl)

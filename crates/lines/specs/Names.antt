-- The words of calls and answers, as bytes.
use Rattle.std.specs.Prelude.{ℕ, List, [], ◌∷◌}

-- "setup"
abbrev pub setup_name : List ℕ
setup_name = 115 ∷ 101 ∷ 116 ∷ 117 ∷ 112 ∷ []

-- "job"
abbrev pub job_name : List ℕ
job_name = 106 ∷ 111 ∷ 98 ∷ []

-- "pick"
abbrev pub pick_name : List ℕ
pick_name = 112 ∷ 105 ∷ 99 ∷ 107 ∷ []

-- "report"
abbrev pub report_name : List ℕ
report_name = 114 ∷ 101 ∷ 112 ∷ 111 ∷ 114 ∷ 116 ∷ []

-- "ask"
abbrev pub ask_name : List ℕ
ask_name = 97 ∷ 115 ∷ 107 ∷ []

-- "board"
abbrev pub board_name : List ℕ
board_name = 98 ∷ 111 ∷ 97 ∷ 114 ∷ 100 ∷ []

-- "nojob"
abbrev pub nojob_name : List ℕ
nojob_name = 110 ∷ 111 ∷ job_name

-- "nopick"
abbrev pub nopick_name : List ℕ
nopick_name = 110 ∷ 111 ∷ pick_name

-- "refused"
abbrev pub refused_name : List ℕ
refused_name = 114 ∷ 101 ∷ 102 ∷ 117 ∷ 115 ∷ 101 ∷ 100 ∷ []

-- "malformed"
abbrev pub malformed_name : List ℕ
malformed_name = 109 ∷ 97 ∷ 108 ∷ 102 ∷ 111 ∷ 114 ∷ 109 ∷ 101 ∷ 100 ∷ []

-- "unchanged"
abbrev pub unchanged_name : List ℕ
unchanged_name = 117 ∷ 110 ∷ 99 ∷ 104 ∷ 97 ∷ 110 ∷ 103 ∷ 101 ∷ 100 ∷ []

-- "raised"
abbrev pub raised_name : List ℕ
raised_name = 114 ∷ 97 ∷ 105 ∷ 115 ∷ 101 ∷ 100 ∷ []

-- "lowered"
abbrev pub lowered_name : List ℕ
lowered_name = 108 ∷ 111 ∷ 119 ∷ 101 ∷ 114 ∷ 101 ∷ 100 ∷ []

-- "dead"
abbrev pub dead_name : List ℕ
dead_name = 100 ∷ 101 ∷ 97 ∷ 100 ∷ []

-- "revived"
abbrev pub revived_name : List ℕ
revived_name = 114 ∷ 101 ∷ 118 ∷ 105 ∷ 118 ∷ 101 ∷ 100 ∷ []

-- why the number moved (A7): the words of the cases, in the order of their numbers
abbrev pub move_names : List (List ℕ)
move_names = unchanged_name ∷ raised_name ∷ lowered_name ∷ dead_name ∷ revived_name ∷ []

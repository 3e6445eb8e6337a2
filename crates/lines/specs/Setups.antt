-- A set-up read from numbers: T, then T times 13 numbers, then D, then D homes.
use Rattle.std.specs.Prelude.{ℕ, ◌+◌, ◌*◌, Bool, List, length, Option, Some, None, eqb, leb}
use Rattle.laws.specs.Bools.{when◌then◌else◌}
use Rattle.laws.specs.Range.{table_to}
use Rattle.rules.specs.declared.Settings.{Settings}
use Rattle.rules.specs.declared.Setup.{Setup}
use Rattle.rules.specs.State.{at, zero_settings}

-- where D stands
abbrev pub place_of_d : List ℕ → ℕ
place_of_d words = 1 + 13 * at words 0

-- the numbers are as many as T and D announce
unfoldable pub announced : List ℕ → Bool
announced words = eqb (length words) (place_of_d words + 1 + at words (place_of_d words))

-- none where they are not
unfoldable pub count_place : List ℕ → Option ℕ
count_place words = when announced words then Some (place_of_d words) else None

-- the 13 numbers from a place on: agents c L d M window-limit initial positive-percent positive-form negative-percent negative-form cohort-limit suspension
unfoldable pub settings_at : List ℕ → ℕ → Settings
settings_at words p =
    record {
      agents = at words p;
      cost = at words (p + 1);
      loan = at words (p + 2);
      discount = at words (p + 3);
      minimum = at words (p + 4);
      limit = at words (p + 5);
      initial = at words (p + 6);
      positive = record { percent = at words (p + 7); form = at words (p + 8) };
      negative = record { percent = at words (p + 9); form = at words (p + 10) };
      cohortlimit = at words (p + 11);
      suspension = at words (p + 12);
    }

-- those of transport i, of t; zeros where there is none
unfoldable pub settings_in : List ℕ → ℕ → ℕ → Settings
settings_in words t i = when leb t i then zero_settings else settings_at words (1 + 13 * i)

-- the homes, behind the place of D; zeros past the last number
unfoldable pub homes_behind : List ℕ → ℕ → List ℕ
homes_behind words p = table_to (λ d. at words (p + 1 + d)) 32

-- a set-up has room for 4 transports and 32 destinations; of more, only T and D count, and they are refused
unfoldable pub setup_from : List ℕ → ℕ → Setup
setup_from words p =
    record {
      transports = at words 0;
      settings = table_to (settings_in words (at words 0)) 4;
      destinations = at words p;
      home = homes_behind words p;
    }

abbrev pub setup_of : List ℕ → Setup
setup_of words = setup_from words (place_of_d words)

-- Request A1: the replay of a journal, over the rules' own replies: what it uses, and the text that it prints.
use Rattle.std.specs.Prelude.{ℕ, ◌/◌, ◌≤◌, ◌≡◌, true, List, [], ◌++◌, length, replicate}
use Rattle.laws.specs.Range.{table_to}
use Rattle.rules.specs.declared.Feedback.{Feedback}
use Rattle.rules.specs.declared.Settings.{Settings}
use Rattle.rules.specs.declared.Setup.{Setup}
use Rattle.rules.specs.declared.State.{State}
use Rattle.rules.specs.Sizes.{max_transports, max_destinations}
use Rattle.rules.specs.Setup.{fresh_state}
use Rattle.rules.specs.Sound.{sound}
use Rattle.rules.specs.Board.{decimal, line_end, numbered, board_text}
use Rattle.rules.specs.History.{state_after, gathered}
use Rattle.journal.specs.Records.{Close, end, refused}
use Rattle.journal.specs.Journals.{Journal}
use Rattle.journal.specs.Replays.{count_used, calls_used, close_used}
use Rattle.playing.specs.Plays.{number_line, printed}

-- "It starts from one set-up written down in docs/": docs/REPLAY.md. The order of the fields is that of document 01.

abbrev pub per_window : Feedback
per_window = record { percent = 100; form = 1 }

abbrev pub replay_settings : Settings
replay_settings =
    record {
      agents = 20;
      cost = 5;
      loan = 3;
      discount = 50;
      minimum = 3;
      limit = 20;
      initial = 5;
      positive = per_window;
      negative = per_window;
      cohortlimit = 1;
      suspension = 300;
    }

abbrev pub replay_setup : Setup
replay_setup =
    record {
      transports = max_transports;
      settings = replicate max_transports replay_settings;
      destinations = max_destinations;
      home = table_to (λ d. d / 8) max_destinations;
    }

-- "a refused record prints number and offset"
unfoldable pub close_line : Close → List ℕ
close_line end = []
close_line (refused k offset) = decimal k ++ numbered offset ++ line_end

-- what the records print, and the close
unfoldable pub played_text : Journal → ℕ → List ℕ
played_text j budget = gathered printed (fresh_state replay_setup) (calls_used j budget) ++ close_line (close_used j budget)

-- "prints the board last, whatever ended it, the count used just before"
unfoldable pub end_text : ℕ → State → List ℕ
end_text used s = number_line used ++ board_text s

unfoldable pub replay_text : Journal → ℕ → List ℕ
replay_text j budget = played_text j budget ++ end_text (count_used j budget) (state_after replay_setup (calls_used j budget))

-- What the end asks of the state: the board text is granted, and has room.
pub record BoardFits (s : State) : Type 0 where
  pub whole : sound s ≡ true
  pub short : length (board_text s) ≤ 4096

-- Document 01, "Sizes" and "Windows": the numbers that everything is measured by.
use Rattle.std.specs.Prelude.{ℕ}

abbrev pub max_transports : ℕ
max_transports = 4

abbrev pub max_destinations : ℕ
max_destinations = 32

-- "jobs present 32"
abbrev pub max_jobs : ℕ
max_jobs = 32

-- "entries waiting or busy 512"
abbrev pub max_entries : ℕ
max_entries = 512

-- "a job has 1 to 256 entries"
abbrev pub max_length : ℕ
max_length = 256

-- "agents to 1,000" (A6)
abbrev pub max_agents : ℕ
max_agents = 1_000

-- "Raise the window limit to 1,000" (A6)
abbrev pub max_window : ℕ
max_window = 1_000

-- "Clock: seconds, 0 to 2^32-1"
abbrev pub last_second : ℕ
last_second = 4_294_967_295

-- "rolls from 4,294,967,295 back to 0"
abbrev pub tickets : ℕ
tickets = 4_294_967_296

-- "U = 23,279,256,000 parts stand for 1"
abbrev pub U : ℕ
U = 23_279_256_000

-- "A sum stops at 65,535"
abbrev pub sum_limit : ℕ
sum_limit = 65_535

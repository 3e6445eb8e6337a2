-- Tests, and the facts that they say.

-- each column has as many places as its array
pub mod Shape
pub mod Shapes
-- settings, a set-up and a live destination in their ranges
pub mod RangeFacts
-- the tests on entries
pub mod EntryTests
-- what soundness says of entries that wait or are eligible
pub mod EntryFacts
-- the test of a job
pub mod JobFacts
-- the test of a state
pub mod Soundness
-- its lists
pub mod ListFacts
-- the roots of the third form of feedback
pub mod Roots
-- a window's step keeps its ranges
pub mod WindowLaws
-- turns that go round
pub mod Turns
-- the refusals, and what a refused call gives
pub mod Refused
-- what an accepted call has passed
pub mod Accepted
-- what a call gives back where it is refused, and where it is not
pub mod Replies
-- Steps: what each finds and changes.

-- taking: columns written anew; the new job, its entries, the lists, all jobs after it
pub mod Filled
pub mod Taken
pub mod TakenEntries
pub mod TakenLists
pub mod TakenJobs
-- picking: what is found; candidates, the best one, who preempts; the columns after a preemption, and after an entry is handed out
pub mod Picked
pub mod Candidates
-- A3: the search that stops
pub mod ShorterSearch
pub mod Preemptor
pub mod Preempted
-- A13: the jobs that it goes past
pub mod WentPast
pub mod HandedOut
-- what the case of a pick's answer tells
pub mod Found
-- reporting: the entries and the counts after the destination's step, and after those without an entry have left
pub mod Settled
pub mod SettledCounts
pub mod Departed
-- What each step keeps: shape and soundness.

pub mod KeptFresh
pub mod KeptWaking
pub mod KeptTaking
pub mod KeptPreempting
pub mod KeptHandedOut
-- a preemption, and then the entry
pub mod KeptPicking
pub mod KeptSettling
pub mod KeptDeparting
-- both, one after the other
pub mod KeptReporting
-- a whole report, in the terms of the state before it
pub mod ReportedFacts
-- The simulation: a state, the tally beside it, and columns of `ceiling`.

-- the tally's rows by place
pub mod Rows
-- what it says
pub mod Sim
-- of rows and jobs
pub mod SimRows
-- of the chain of parents
pub mod SimChain
-- through each step
pub mod SimFresh
pub mod SimTaking
pub mod SimTally
pub mod SimOvertaking
pub mod SimPreempt
pub mod SimPast
pub mod SimPick
pub mod SimPicking
pub mod SimReporting
-- The demands.

-- the steps that a call is made of: what they keep, every list of calls keeps
pub mod CallCases
-- one call more at the end of a list
pub mod HistoryLaws
-- every state reached is sound, with a simulation
pub mod Reached
-- an account for each job ever taken, and that it balances
pub mod Books
pub mod NothingLost
-- demand 3 with its companions
pub mod Demand3
-- A4: a window below its limit rises again
pub mod Recovery
-- what is computed: the names to unfold, and single rules at their edges
pub mod Opened
pub mod Edges
-- A6: windows to 20 as they were, and what a report moves
pub mod WideWindows
-- A7: what a report tells of its destination
pub mod WhyMoved

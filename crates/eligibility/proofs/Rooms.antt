-- The room of a live and of a dead destination.
use Prim.Native.Nat.{ℕ, ◌≤◌, ◌<◌}
use mathlib.Core.Bool.{true, false, ◌&&◌}
use mathlib.Core.Path.{◌≡◌}
use lib.Dec.{ltb}
use borrow.Author.Tests.{lt-ltb, le-ltb}
use Rattle.rules.specs.declared.Sums.{Sums}
use Rattle.rules.specs.declared.Health.{Health}
use Rattle.rules.specs.declared.Health.TheVariants.{Live, Dead}
use Rattle.rules.specs.State.{is_live, window_of}

module _ (h : Health) (u : Sums) (busy : ℕ) (e : h ≡ Live u) where
  pub room_live : busy < u.window → true ≡ (is_live h && ltb busy (window_of h))
  unfolding is_live window_of
  room_live l = rw (e, lt-ltb busy u.window l)

  pub room_full : u.window ≤ busy → false ≡ (is_live h && ltb busy (window_of h))
  unfolding is_live window_of
  room_full l = rw (e, le-ltb busy u.window l)

pub room_dead : (h : Health) (end busy : ℕ) → h ≡ Dead end → false ≡ (is_live h && ltb busy (window_of h))
unfolding is_live
room_dead h end busy e = rw e

-- What the writers of the two outputs ask and promise.
use Rattle.std.specs.Prelude.{ℕ, ◌*◌, ◌≤◌, List, length}
use Rattle.lines.specs.Nodes.{Line}
use Rattle.lines.specs.Writing.{file_of}
use Rattle.sweeping.specs.Sweeping.{swept}

-- ## Lines

pub record SweepRoom (ls : List Line) (out : List ℕ) : Type 0 where
  pub few : length ls ≤ 128
  pub room : length (file_of (swept ls)) ≤ length out

-- ## Numbers

pub record NumbersRoom (ls : List Line) (out : List ℕ) : Type 0 where
  pub few : length ls ≤ 128
  pub room : 5 * length ls ≤ length out

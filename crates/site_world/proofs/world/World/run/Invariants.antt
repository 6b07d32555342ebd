use Rattle.std.proofs.Common.{◌≡◌, ◌≤◌, take, length}
use Rattle.std.specs.Vec.{vec_len, vec_capacity}
use Rattle.site_world.specs.Runs.{Run}
use Rattle.site_world.proofs.world.World.run.Given as goal

-- The steps so far were run, each has its answer, and there is room for the other answers.
abbrev pub invariant-loop-step : goal.invariant-loop-step
invariant-loop-step l = record {
  room : length l.steps ≤ vec_capacity l.answers;
  many : vec_len l.answers ≡ l.step-index;
  run : Run l.fn.self (take l.step-index l.steps) l.answers.items l.self;
}

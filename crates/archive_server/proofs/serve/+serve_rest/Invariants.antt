use Rattle.std.specs.Prelude.{vec_len}
use Rattle.archive_server.proofs.serve.+serve_rest.Given as goal

-- a pass is taken out before each call
abbrev pub decreases-serve_rest : goal.decreases-serve_rest
decreases-serve_rest g l = vec_len l.passes.now

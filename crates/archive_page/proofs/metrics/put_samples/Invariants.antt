use Rattle.std.proofs.Common.{◌≡◌, ◌++◌, drop}
use Rattle.archive_page.specs.Metrics.{samples_text, metrics_text}
use Rattle.archive_page.proofs.metrics.put_samples.Given as goal

-- What was put, with the samples that are left behind the last name, is all.
abbrev pub invariant-loop-sample : goal.invariant-loop-sample
invariant-loop-sample l =
    l.out.items ++ samples_text l.before (drop l.sample-index l.samples) ≡ l.fn.out.items ++ metrics_text l.samples

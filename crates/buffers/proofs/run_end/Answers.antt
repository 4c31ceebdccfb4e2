-- A run begins at the place, or at the end where the place is past it.
use Rattle.buffers.specs.Runs.{test_of}
use Rattle.buffers.proofs.Rest.{run_from}
use Rattle.buffers.proofs.run_end.Goals as goal

pub returns : goal.returns
returns c = run_from (test_of c.args.kind) c.args.s.now c.args.from c.min.ensures c.run_size.ensures

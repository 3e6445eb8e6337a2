-- The entry that is read. Assumes nothing.
use Rattle.roots.proofs.Table.{root_from}
use Rattle.roots.proofs.root_from_30.Goals as goal

pub returns : goal.returns
returns c = root_from c.args.window c.requires.0 c.requires.1

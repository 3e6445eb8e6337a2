-- The entry that is read. Assumes nothing.
use Rattle.roots.proofs.Table.{root_up_to}
use Rattle.roots.proofs.root_up_to_29.Goals as goal

pub returns : goal.returns
returns c = root_up_to c.args.window c.requires.0 c.requires.1

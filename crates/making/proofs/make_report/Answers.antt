use Rattle.making.proofs.MadeLaws.{made}
use Rattle.making.proofs.make_report.Goals as goal

pub returns : goal.returns
returns c = made _ _ _ c.report-reported.ensures c.put_report.ensures

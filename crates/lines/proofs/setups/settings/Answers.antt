-- Thirteen numbers, or zeros. Assumes nothing.
use Rattle.std.proofs.Common.{refl, arith}
use Rattle.lines.proofs.SetupLaws.{settings_none, settings_made}
use Rattle.lines.proofs.setups.settings.Goals as goal

pub returns-then-t-from : goal.returns-then-t-from
returns-then-t-from c = settings_none _ _ _ _ c.zero_settings.ensures (omega (arith, c.if-t-from.true, c.from.ensures))

pub returns : goal.returns
returns c =
    settings_made _ _ _ _ refl (omega (arith, c.if-t-from.false, c.from.ensures)) c.word.ensures c.word-2.ensures c.word-3.ensures c.word-4.ensures c.word-5.ensures
    c.word-6.ensures c.word-7.ensures c.word-8.ensures c.word-9.ensures c.word-10.ensures c.word-11.ensures c.word-12.ensures c.word-13.ensures

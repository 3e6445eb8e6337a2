-- The refusal's number. Assumes nothing.
use Rattle.std.proofs.Common.{◌∙◌, sym}
use Rattle.lines.specs.Texts.{refused_text}
use Rattle.lines.proofs.PutLaws.{put_case}
use Rattle.lines.proofs.answer.refused.Goals as goal

pub returns : goal.returns
returns c = put_case refused_text (sym (c.from.ensures ∙ c.number.ensures)) c.numbered.ensures

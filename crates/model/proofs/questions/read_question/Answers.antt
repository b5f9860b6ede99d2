use Rattle.std.proofs.Common.{refl}
use Rattle.model.proofs.Asked.{asked, asked-long}
use Rattle.model.proofs.questions.read_question.Goals as goal

pub returns-then-bytes-gt-LONGEST_FORMULA : goal.returns-then-bytes-gt-LONGEST_FORMULA
returns-then-bytes-gt-LONGEST_FORMULA c = asked-long _ _ _ _ c.if-bytes-gt-LONGEST_FORMULA.true refl

pub returns : goal.returns
returns c = asked _ _ _ _ c.if-bytes-gt-LONGEST_FORMULA.false c.accept.ensures

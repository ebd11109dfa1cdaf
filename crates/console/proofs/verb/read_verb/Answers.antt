use Rattle.std.proofs.Common.{codes, refl, arith, rules}
use Rattle.std.proofs.lemmas.Slice.Eq.{text_from_reads}
use Rattle.console.proofs.verb.read_verb.Goals as goal

pub returns-in-cancel : goal.returns-in-cancel
returns-in-cancel c = rw (text_from_reads c.args.word.now (codes "cancel") (omega arith) (search rules)) refl

pub returns-in-change : goal.returns-in-change
returns-in-change c = rw (text_from_reads c.args.word.now (codes "change") (omega arith) (search rules)) refl

pub returns-in-letter : goal.returns-in-letter
returns-in-letter c = rw (text_from_reads c.args.word.now (codes "letter") (omega arith) (search rules)) refl

pub returns-in-again : goal.returns-in-again
returns-in-again c = rw (text_from_reads c.args.word.now (codes "again") (omega arith) (search rules)) refl

pub returns-in-serve : goal.returns-in-serve
returns-in-serve c = rw (text_from_reads c.args.word.now (codes "serve") (omega arith) (search rules)) refl

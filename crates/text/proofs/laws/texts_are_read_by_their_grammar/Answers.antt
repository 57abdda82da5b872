use Rattle.text.proofs.Grammar.{read_by_grammar}
use Rattle.text.proofs.laws.texts_are_read_by_their_grammar.Goals as goal

pub returns : goal.returns
returns c = read_by_grammar

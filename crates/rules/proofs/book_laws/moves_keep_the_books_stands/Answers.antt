use Rattle.rules.proofs.Keep.{moves_keep_the_books}
use Rattle.rules.proofs.book_laws.moves_keep_the_books_stands.Goals as goal

pub returns : goal.returns
returns c = moves_keep_the_books

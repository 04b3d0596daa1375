use Rattle.rules.proofs.Delivers.{sends_keep_order}
use Rattle.rules.proofs.book_laws.sends_keep_order_stands.Goals as goal

pub returns : goal.returns
returns c = sends_keep_order

use Rattle.rules.proofs.Posts.{calls_keep_order}
use Rattle.rules.proofs.book_laws.calls_keep_order_stands.Goals as goal

pub returns : goal.returns
returns c = calls_keep_order

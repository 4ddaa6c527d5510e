use Rattle.reply.proofs.Places.{finds_each, only_one, parts_are_views, views_hold}
use Rattle.reply.proofs.laws.places_agree.Goals as goal

pub returns : goal.returns
returns c = record { views = parts_are_views; one = only_one; each = finds_each; held = views_hold }

-- A row of views, passed one after another.
use Rattle.std.specs.Prelude.{◌≡◌, ◌+◌, [], ◌∷◌}
use Rattle.reply.specs.declared.view.Reply.{Reply}
use Rattle.reply.specs.declared.view.Items.{Items}
use Rattle.reply.specs.Tree.{Ended}
use Rattle.reply.specs.View.{node_of, nodes_of}

-- the reply is the first of the row, in the same bytes, and the others begin where it ends
pub record Passes (row : Items) (reply : Reply) (others : Items) : Type 0 where
  pub left : row.left ≡ others.left + 1
  pub items : nodes_of row ≡ node_of reply ∷ nodes_of others
  pub bytes : reply.bytes ≡ row.bytes
  pub stays : others.bytes ≡ row.bytes
  pub ends : Ended reply.bytes.now reply.pair reply.at others.at

-- nothing is left
pub record Over (row others : Items) : Type 0 where
  pub none : row.left ≡ 0
  pub items : nodes_of row ≡ []
  pub stays : others ≡ row

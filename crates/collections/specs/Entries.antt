-- A row of keys and values, passed entry by entry.
use Rattle.std.specs.Prelude.{◌≡◌, ◌+◌, ◌<◌, ◌≤◌, length, ◌∷◌}
use Rattle.reply.specs.View.{node_of, nodes_of}
use Rattle.collections.specs.declared.entry.Entry.{Entry}
use Rattle.collections.specs.declared.entry.Entries.{Entries}

-- the entry is the first of the row, its value in the same bytes
pub record PassesEntry (row : Entries) (entry : Entry) (others : Entries) : Type 0 where
  pub left : row.rest.left ≡ others.rest.left + 2
  pub items : nodes_of row.rest ≡ node_of entry.key ∷ (node_of entry.value ∷ nodes_of others.rest)
  pub bytes : entry.value.bytes ≡ row.rest.bytes
  pub stays : others.rest.bytes ≡ row.rest.bytes

-- no entry is left, at most a key
pub record NoEntry (row others : Entries) : Type 0 where
  pub few : length (nodes_of row.rest) < 2
  pub left : others.rest.left ≤ row.rest.left

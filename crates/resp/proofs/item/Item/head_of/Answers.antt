use Rattle.std.proofs.Common.{take, drop, ⊎_elim, rules}
use Rattle.resp.specs.declared.kind.Kind.TheVariants as kind
use Rattle.resp.specs.Reply.{VerbatimString, ServerError}
use Rattle.resp.specs.Reading.{simple_leaf}
use Rattle.resp.proofs.Tolds.{told_leaf, told_kind, told_lined}
use Rattle.resp.proofs.item.Item.head_of.Goals as goal

-- both kinds of simple text
pub returns-in-SimpleString : goal.returns-in-SimpleString
returns-in-SimpleString c =
    ⊎_elim
    (λ is. told_kind c.args.self.bytes.now c.args.kind kind.SimpleString _ _ c.leaf.result c.text_line.result is c.leaf.ensures
    (told_leaf simple_leaf c.args.self.bytes.now _ c.text_line.result c.text_line.ensures))
    (λ is. told_kind c.args.self.bytes.now c.args.kind kind.SimpleError _ _ c.leaf.result c.text_line.result is c.leaf.ensures
    (told_leaf ServerError c.args.self.bytes.now _ c.text_line.result c.text_line.ensures))
    c.in-SimpleString.is

pub returns-in-BulkString : goal.returns-in-BulkString
returns-in-BulkString c =
    told_kind c.args.self.bytes.now c.args.kind kind.BulkString _ _ c.leaf-in-BulkString.result c.bulk_string.result c.in-BulkString.is c.leaf-in-BulkString.ensures
    (told_leaf (λ l. l) c.args.self.bytes.now _ c.bulk_string.result c.bulk_string.ensures)

pub returns-in-BulkError : goal.returns-in-BulkError
returns-in-BulkError c =
    told_kind c.args.self.bytes.now c.args.kind kind.BulkError _ _ c.leaf-in-BulkError.result c.bulk_error.result c.in-BulkError.is c.leaf-in-BulkError.ensures
    (told_leaf ServerError c.args.self.bytes.now _ c.bulk_error.result c.bulk_error.ensures)

pub returns-in-VerbatimString : goal.returns-in-VerbatimString
returns-in-VerbatimString c =
    told_kind c.args.self.bytes.now c.args.kind kind.VerbatimString _ _ c.leaf-in-VerbatimString.result c.verbatim_string.result c.in-VerbatimString.is c.leaf-in-VerbatimString.ensures
    (told_leaf (λ d. VerbatimString (take 3 d) (drop 4 d)) c.args.self.bytes.now _ c.verbatim_string.result c.verbatim_string.ensures)

pub returns-in-Integer : goal.returns-in-Integer
returns-in-Integer c = search (rules, told_lined)

use Rattle.std.proofs.Common.{◌≡◌, ◌+◌, take, drop, ap, ◌∙◌, arith}
use Rattle.std.proofs.lemmas.List.{take_rest}
use Rattle.resp.specs.Cases.{case_of}
use Rattle.resp.specs.Node.{erase}
use Rattle.reply.specs.Parted.{after_lf, format_of, textual}
use Rattle.reply.specs.Tree.{wholly}
use Rattle.reply.specs.View.{node_of}
use Rattle.reply.proofs.LeafParts.{text_single}
use Rattle.reply.proofs.Views.{single}
use Rattle.reply.proofs.Formats.{format_at}
use Rattle.reply.proofs.view.Reply.format_start.Goals as goal

pub returns : goal.returns
unfolding node_of wholly
returns c =
    let s = c.args.self in
    let bs = s.bytes.now in
    let one = single bs s.pair s.at (text_single bs s.pair s.at s.whole (ap textual c.requires)) s.whole in
    let f = format_at bs s.at s.inside one.0 (ap (λ n. case_of (erase n)) one.1 ∙ c.requires) in
    let inside = f.inside in
    let lf : c.after_lf.result ≡ after_lf (drop s.at bs) = c.after_lf.ensures ∙ ap after_lf (take_rest bs s.at) in
    let sum = c.saturating_add.ensures in
    let start : c.saturating_add.result ≡ s.at + after_lf (drop s.at bs) = omega arith in
    record { inside = omega arith; format = ap (λ p. take 3 (drop p bs)) start ∙ f.value ∙ ap format_of one.1 }

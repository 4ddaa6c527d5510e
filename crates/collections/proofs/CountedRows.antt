-- Rows inside another shape are found at their place.
use Rattle.std.proofs.Common.{◌≡◌, List, length, Ok, Err, Result, sym, refl, ap, ◌∙◌}
use Rattle.resp.specs.Node.{Node}
use Rattle.reply.specs.Find.{find}
use Rattle.reply.specs.Parts.{spot_of}
use Rattle.reply.specs.View.{node_of}
use Rattle.reply.proofs.Places.{finds_each}
use Rattle.kinds.specs.declared.fault.Fault.{Fault}
use Rattle.kinds.specs.Rows.{and_then, counted}
use Rattle.collections.specs.Counted.{Counted}
use Rattle.collections.specs.declared.listed.Listed.{Listed}
use Rattle.collections.specs.Lists.{listed_at, listed_one}
use Rattle.collections.specs.Picks.{picked, row_of}
use Rattle.collections.specs.Steps.{nth_in}

module _ {V : Type 0} (rows : Node → Result (List V) Fault) (n : Node) where
  by : (r : Result (List V) Fault) → rows n ≡ r → (v : Listed V) → and_then (counted r) (λ c. Ok (listed_at (spot_of n) c)) ≡ Ok v → Counted rows n v
  by (Err f) e v h = absurd cc
  by (Ok vs) e v h =
      let is : listed_at (spot_of n) (length vs) ≡ v = cc in
      let spot : v.spot ≡ spot_of n = ap (λ l. l.spot) (sym is) in
      record {
        place = spot;
        all = vs;
        read = e;
        count = ap (λ l. l.count) (sym is);
        picks = λ whole inside i.
            ap (λ s. row_of rows i (find s (node_of whole))) spot ∙ ap (row_of rows i) (finds_each whole n inside) ∙ ap (λ r. picked (nth_in i r)) e;
      }

  pub counted_rows : (r : Result (Listed V) Fault) → r ≡ listed_one rows n → (v : Listed V) → r ≡ Ok v → Counted rows n v
  counted_rows r e v h = by (rows n) refl v (sym e ∙ h)

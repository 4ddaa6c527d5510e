-- The pair at the loop's place is the text's characters 2i and 2i + 1: `Pairs` has the steps.
use Rattle.std.proofs.Common.{◌≡◌, ℕ, ◌+◌, ◌*◌, ◌/◌, ◌%◌, ◌<◌, List, [], length, get_or, Some, None, vec_items, arith, rules, MatchOption}
use Rattle.compare.specs.Hex.{SpellsAt}
use Rattle.compare.specs.declared.hex.HexError.TheVariants.{NotHex}
use Rattle.std.proofs.lemmas.Result.{err_from_is_err_and}
use Rattle.std.proofs.lemmas.Option.{MatchOption-at_none, MatchOption-at_some}
use Rattle.compare.proofs.Pairs.{to_text, to_pair, one_more}
use Rattle.compare.proofs.hex.decode.Goals as goal

pub returns-in_err-byte : goal.returns-in_err-byte
returns-in_err-byte c =
    let i : ℕ = c.loop-pair.pair-index in
    let row : List ℕ = get_or c.as_chunks.result.0.now i [] in
    let told : MatchOption c.byte.result ((b : ℕ) → SpellsAt row 0 b → ⊥) (λ b. SpellsAt row 0 b) = c.byte.ensures in
    let none : c.byte.result ≡ None = grind arith in
    let p = err_from_is_err_and c.from_residual-in_err-byte.result c.from_residual-in_err-byte.ensures.1 in
    let is : p.0 ≡ NotHex = grind arith in
    let even : length c.args.text.now % 2 ≡ 0 = search rules in
    let within : i < length c.args.text.now / 2 = search rules in
    let inside : 2 * i + 1 < length c.args.text.now = search rules in
    let not-spelled : (b : ℕ) → SpellsAt row 0 b → ⊥ =
    MatchOption-at_none ((b : ℕ) → SpellsAt row 0 b → ⊥) (λ b. SpellsAt row 0 b) none told in
    let back : (b : ℕ) → SpellsAt c.args.text.now i b → SpellsAt row 0 b =
    to_pair c.args.text.now c.as_chunks.result.0.now (length c.args.text.now / 2) i c.as_chunks.ensures.front within in
    rw (p.1, is) (even, (i, inside, λ b s. not-spelled b (back b s)))

pub loop-pair-preserved : goal.loop-pair-preserved
loop-pair-preserved c =
    let i : ℕ = c.loop-pair.pair-index in
    let row : List ℕ = get_or c.as_chunks.result.0.now i [] in
    let told : MatchOption c.byte.result ((b : ℕ) → SpellsAt row 0 b → ⊥) (λ b. SpellsAt row 0 b) = c.byte.ensures in
    let some : c.byte.result ≡ Some c.in_ok-byte.byte = grind arith in
    let within : i < length c.args.text.now / 2 = search rules in
    one_more c.args.text.now (vec_items c.loop-pair.bytes) (vec_items c.push.new.self) i c.in_ok-byte.byte
    c.in_ok-push.ensures.items c.loop-pair.invariant.0 c.loop-pair.invariant.1
    (to_text c.args.text.now c.as_chunks.result.0.now (length c.args.text.now / 2) i c.as_chunks.ensures.front within
    c.in_ok-byte.byte
    (MatchOption-at_some ((b : ℕ) → SpellsAt row 0 b → ⊥) (λ b. SpellsAt row 0 b) c.in_ok-byte.byte some told))

pub returns : goal.returns
returns c =
    let all : length c.args.text.now ≡ 2 * length (vec_items c.loop-pair.bytes) = search rules in
    (all, λ k h. c.loop-pair.invariant.1 k (omega (arith, h, c.loop-pair.invariant.0)))

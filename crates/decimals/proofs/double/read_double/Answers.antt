use Rattle.std.proofs.Common.{◌≡◌, false, codes, rules}
use Rattle.std.specs.Str.{bytes_eq}
use lib.Ieee.{of_bits}
use Rattle.decimals.proofs.Spellings.{three_bytes, four_bytes}
use Rattle.decimals.proofs.double.read_double.Goals as goal

pub returns-in-inf : goal.returns-in-inf
unfolding of_bits
returns-in-inf c =
    let is : c.args.line.now ≡ codes "inf" = search (rules, three_bytes) in rw is

pub returns-in-nan : goal.returns-in-nan
unfolding of_bits
returns-in-nan c =
    let is : c.args.line.now ≡ codes "nan" = search (rules, three_bytes) in rw is

pub returns-in-45 : goal.returns-in-45
unfolding of_bits
returns-in-45 c =
    let is : c.args.line.now ≡ codes "-inf" = search (rules, four_bytes) in rw is

pub returns-in_default : goal.returns-in_default
returns-in_default c =
    let a : bytes_eq c.args.line.now (codes "inf") ≡ false = search rules in
    let b : bytes_eq c.args.line.now (codes "-inf") ≡ false = search rules in
    let d : bytes_eq c.args.line.now (codes "nan") ≡ false = search rules in rw (a, b, d, c.read_float.ensures)

-- Readers taken apart.
use Rattle.std.proofs.Common.{◌≡◌, ℕ, Bool, true, false, cond, List, Some, None, Option, refl}
use Rattle.resp.specs.declared.fault.WireReason.{WireReason}
use Rattle.resp.specs.Out.{Out, ok, fault, and_then, map_out}
use Rattle.resp.specs.Reading.{or_content}

pub clash : {A : Type 0} {k : WireReason} {at rest : List ℕ} {a : A} → fault k at ≡ ok a rest → ⊥
clash e = cc

pub and_then_ok : {A B : Type 0} (o : Out A) (k : A → List ℕ → Out B) (b : B) (rest : List ℕ) → and_then o k ≡ ok b rest
    → (a : A) × (more : List ℕ) × (o ≡ ok a more) × (k a more ≡ ok b rest)
and_then_ok (ok a more) k b rest e = (a, more, refl, e)
and_then_ok (fault n at) k b rest e = absurd (clash e)

pub map_out_ok : {A B : Type 0} (o : Out A) (g : A → B) (b : B) (rest : List ℕ) → map_out g o ≡ ok b rest → (a : A) × (o ≡ ok a rest) × (g a ≡ b)
map_out_ok (ok a more) g b rest e = (a, cc, cc)
map_out_ok (fault n at) g b rest e = absurd (clash e)

pub or_content_ok : {A : Type 0} (s : List ℕ) (o : Option A) (more : List ℕ) (a : A) (rest : List ℕ) → or_content s o more ≡ ok a rest → (o ≡ Some a) × (more ≡ rest)
or_content_ok s (Some b) more a rest e = (cc, cc)
or_content_ok s None more a rest e = absurd (clash e)

pub by_test : {A P : Type 0} (t : Bool) (x y z : A) → cond t x y ≡ z → (t ≡ true → x ≡ z → P) → (t ≡ false → y ≡ z → P) → P
by_test true x y z e p q = p refl e
by_test false x y z e p q = q refl e

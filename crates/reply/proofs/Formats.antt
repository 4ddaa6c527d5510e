-- The format of a verbatim string.
use Rattle.std.proofs.Common.{◌≡◌, ℕ, ◌+◌, ◌≤◌, true, false, List, ◌∷◌, ◌++◌, length, take, drop, sym, refl, ap, ◌∙◌, append_assoc, arith}
use Rattle.std.proofs.lemmas.List.{length-append, length-drop, drop-drop, drop_at, take_at}
use Rattle.resp.specs.declared.case.Case.TheVariants as case
use Rattle.resp.specs.Reply.{Leaf}
use Rattle.resp.specs.Grammar as grammar
use Rattle.resp.specs.Grammar.{header, Leafed, crlf}
use Rattle.resp.specs.Node.{erase}
use Rattle.resp.specs.Cases.{case_of, case_of_leaf}
use Rattle.reply.specs.Parted.{after_lf, format_in, format_of, textual}
use Rattle.reply.specs.Tree.{view_at, is_read, node_at}
use Rattle.reply.proofs.PartSteps.{lf_header}
use Rattle.reply.proofs.Opening.{leaf_at}

no_case : {A : Type 0} → ◌≡◌ {A = ℕ} 0 1 → A
no_case z = absurd (omega arith)

-- the format follows the first line
record FormatLine (l : Leaf) (x rest : List ℕ) : Type 0 where
  pub line : List ℕ
  pub format : List ℕ
  pub tail : List ℕ
  pub all : x ++ rest ≡ line ++ (format ++ tail)
  pub long : after_lf (x ++ rest) ≡ length line
  pub three : length format ≡ 3
  pub is : format_in l ≡ format

format_line : (l : Leaf) (x rest : List ℕ) → Leafed l x → case_of_leaf l ≡ case.VerbatimString → FormatLine l x rest
format_line _ _ rest grammar.a_null e = no_case (cc)
format_line _ _ rest grammar.a_null_bulk e = no_case (cc)
format_line _ _ rest grammar.a_null_array e = no_case (cc)
format_line _ _ rest (grammar.an_integer line i) e = no_case (cc)
format_line _ _ rest grammar.a_true e = no_case (cc)
format_line _ _ rest grammar.a_false e = no_case (cc)
format_line _ _ rest (grammar.a_double line i) e = no_case (cc)
format_line _ _ rest (grammar.a_big_number line i) e = no_case (cc)
format_line _ _ rest grammar.an_okay e = no_case (cc)
format_line _ _ rest (grammar.a_simple_string line w n) e = no_case (cc)
format_line _ _ rest (grammar.a_simple_error line w) e = no_case (cc)
format_line _ _ rest (grammar.a_bulk_string h) e = no_case (cc)
format_line _ _ rest (grammar.a_bulk_error h w) e = no_case (cc)
format_line _ _ rest (grammar.a_verbatim_string {f = f} {t = t} three (header {c = c} line q le) w) e =
    let h = 61 ∷ (c ++ crlf) in
    let s = f ++ (58 ∷ t) in
    record {
      line = h;
      format = f;
      tail = (58 ∷ t) ++ (crlf ++ rest);
      all = spread h f (58 ∷ t) rest;
      long = ap after_lf (append_assoc h (s ++ crlf) rest) ∙ lf_header 61 c ((s ++ crlf) ++ rest) (λ e. omega arith) line.clean ∙ omega (arith, length-append c crlf);
      three = three;
      is = refl;
    }
  where
    spread : (h f t rest : List ℕ) → (h ++ ((f ++ t) ++ crlf)) ++ rest ≡ h ++ (f ++ (t ++ (crlf ++ rest)))
    spread h f t rest = simp append_assoc

-- the format of the verbatim string at p
pub record Format (bs : List ℕ) (p : ℕ) : Type 0 where
  pub inside : p + after_lf (drop p bs) + 3 ≤ length bs
  pub value : take 3 (drop (p + after_lf (drop p bs)) bs) ≡ format_of (node_at bs false p)

pub format_at : (bs : List ℕ) (p : ℕ) → p ≤ length bs → is_read (view_at bs false p) ≡ true → case_of (erase (node_at bs false p)) ≡ case.VerbatimString → Format bs p
format_at bs p le h is =
    let L = leaf_at bs p le h (ap textual is) in
    let same : case_of_leaf L.it ≡ case.VerbatimString = ap (λ n. case_of (erase n)) (sym L.node) ∙ is in
    let F = format_line L.it L.front L.rest L.formed same in
    let all : drop p bs ≡ F.line ++ (F.format ++ F.tail) = L.split ∙ F.all in
    let long : after_lf (drop p bs) ≡ length F.line = ap after_lf L.split ∙ F.long in
    let three = F.three in
    let a : length (drop p bs) ≡ length F.line + length (F.format ++ F.tail) = ap length all ∙ length-append F.line (F.format ++ F.tail) in
    let b = length-append F.format F.tail in
    let d = length-drop p bs in
    record {
      inside = omega arith;
      value = ap (take 3) (sym (drop-drop (after_lf (drop p bs)) p bs) ∙ ap (drop (after_lf (drop p bs))) all ∙ drop_at F.line (F.format ++ F.tail) (after_lf (drop p bs)) (sym long))
          ∙ take_at F.format F.tail 3 F.three ∙ sym F.is ∙ ap format_of (sym L.node);
    }

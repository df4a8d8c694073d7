-- An operation with the record's LSN is a change; steps that respect the mask make an operation.
use Rattle.std.proofs.Common.{◌≡◌, ℕ, ◌<◌, List, Bool, IsTrue, Ok, Err, length, refl, sym, ◌∙◌, ap, subst}
use Rattle.page_layout.specs.Lsn.{with_lsn}
use Rattle.page_layout.specs.declared.refusal.RedoWhy.{RedoWhy}
use Rattle.page_masks.specs.Law.{PageView, view, is_page, Redone, SameMasks, SameAnswer, IsOperation, IsChange, set_lsn_of, stamped, and_then, Respects}
use Rattle.page_masks.proofs.LsnLemmas.{lsn-with_lsn, page_size, stamped_page}
use Rattle.page_masks.proofs.LsnUnshown.{lsn_unshown}

abbrev OkPage : List ℕ → Redone
OkPage p = Ok p

record OkFrom (end : ℕ) (a : Redone) (q : List ℕ) : Type 0 where
  made : List ℕ
  is : a ≡ OkPage made
  set_is : with_lsn end made ≡ q

ok_from : (end : ℕ) (a : Redone) (q : List ℕ) → set_lsn_of end a ≡ OkPage q → OkFrom end a q
ok_from end (Ok made) q e = record { made = made; is = refl; set_is = cc e }
ok_from end (Err why) q e = cc e

same_answer : (block end : ℕ) (a b : Redone) → ((q : List ℕ) → a ≡ OkPage q → length q ≡ 8192) → ((q : List ℕ) → b ≡ OkPage q → length q ≡ 8192)
    → SameMasks (view block) a b → SameAnswer (view block) (set_lsn_of end a) (set_lsn_of end b)
same_answer block end (Ok p) (Ok q) page_p page_q same =
    record {
      lsn = lsn-with_lsn end p (page_p p refl) ∙ sym (lsn-with_lsn end q (page_q q refl));
      mask = lsn_unshown block end p (page_p p refl) ∙ same ∙ sym (lsn_unshown block end q (page_q q refl));
    }
same_answer block end (Err a) (Err b) page_p page_q same = same
same_answer block end (Ok p) (Err b) page_p page_q same = absurd same
same_answer block end (Err a) (Ok q) page_p page_q same = absurd same

pub stamped_is : (block end : ℕ) (g : List ℕ → Redone) → 0 < end → IsOperation (view block) g → IsChange (view block) end (stamped end g)
stamped_is block end g some op = record {
  page = λ p q page_p e. let o = ok_from end (g p) q e in subst (λ x. IsTrue (is_page x)) o.set_is (stamped_page end o.made some (op.page p o.made (page_size p page_p) o.is));
  lsn = λ p q page_p e. let o = ok_from end (g p) q e in ap (view block).lsn (sym o.set_is) ∙ lsn-with_lsn end o.made (op.page p o.made (page_size p page_p) o.is);
  mask = λ p q page_p page_q sound same. same_answer block end (g p) (g q) (λ r e. op.page p r (page_size p page_p) e) (λ r e. op.page q r (page_size q page_q) e) (op.mask p q (page_size p page_p) (page_size q page_q) sound same);
}

-- one step after another
record Through (a : Redone) (g : List ℕ → Redone) (q : List ℕ) : Type 0 where
  mid : List ℕ
  is : a ≡ OkPage mid
  goes_on : g mid ≡ OkPage q

through : (a : Redone) (g : List ℕ → Redone) (q : List ℕ) → and_then a g ≡ OkPage q → Through a g q
through (Ok mid) g q e = record { mid = mid; is = refl; goes_on = e }
through (Err why) g q e = cc e

both : (v : PageView) (a b : Redone) (g : List ℕ → Redone) → SameMasks v a b
    → ((p q : List ℕ) → a ≡ OkPage p → b ≡ OkPage q → v.mask p ≡ v.mask q → SameMasks v (g p) (g q))
    → SameMasks v (and_then a g) (and_then b g)
both v (Ok p) (Ok q) g same on = on p q refl refl same
both v (Err a) (Err b) g same on = same
both v (Ok p) (Err b) g same on = absurd same
both v (Err a) (Ok q) g same on = absurd same

pub one_then_other : (v : PageView) (shape : List ℕ → Bool) (f g : List ℕ → Redone) → Respects v shape f → Respects v shape g → Respects v shape (λ p. and_then (f p) g)
one_then_other v shape f g rf rg = record {
  page = λ p q page_p s e. let t = through (f p) g q e in rg.page t.mid q (rf.page p t.mid page_p s t.is) (rf.keeps p t.mid page_p s t.is) t.goes_on;
  keeps = λ p q page_p s e. let t = through (f p) g q e in rg.keeps t.mid q (rf.page p t.mid page_p s t.is) (rf.keeps p t.mid page_p s t.is) t.goes_on;
  mask = λ p q page_p page_q s_p s_q same. both v (f p) (f q) g (rf.mask p q page_p page_q s_p s_q same)
      (λ x y ex ey m. rg.mask x y (rf.page p x page_p s_p ex) (rf.page q y page_q s_q ey) (rf.keeps p x page_p s_p ex) (rf.keeps q y page_q s_q ey) m);
}

pub refuses : (v : PageView) (shape : List ℕ → Bool) (why : RedoWhy) → Respects v shape (λ p. Err why)
refuses v shape why = record { page = λ p q page_p s e. cc e; keeps = λ p q page_p s e. cc e; mask = λ p q page_p page_q s_p s_q same. refl }

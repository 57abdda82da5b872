use Rattle.std.proofs.Common.{false, length, refl, ap, ◌∙◌, arith}
use Rattle.std.proofs.lemmas.List.{length-set}
use Rattle.cnf.specs.Clauses.{literals}
use Rattle.engine.proofs.Refusing.{alike}
use Rattle.std.specs.List.{list_all}
use Rattle.cnf.specs.Ascending.{ascending}
use Rattle.engine.specs.declared.limits.Limits.{Limits}
use Rattle.engine.specs.Meaning.{highest}
use Rattle.scanning.proofs.Keeping.{places_kept, texts_kept, one_more}
use Rattle.scanning.proofs.Scanning.store.Goals as goal

pub invariant_of-self : goal.invariant_of-self
invariant_of-self c =
    let s = c.args.self.now in
    let start = c.literals-start.ensures in
    let kept = texts_kept s c.args.text.now c.copy_from_slice.new.self c.literals-start.result c.copy_from_slice.ensures.after start c.requires.room.1 in
    let long = places_kept s c.args.text.now c.copy_from_slice.new.self c.literals-start.result c.copy_from_slice.ensures.after start c.requires.room.1 in
    record {
      small = s.small;
      served = (s.served.0, omega (arith, s.served, long));
      placed = s.placed;
      counted = ap literals kept ∙ s.counted;
      rising = ap (list_all (ascending 0 highest)) kept ∙ s.rising;
    }

pub invariant_of-self-2 : goal.invariant_of-self-2
invariant_of-self-2 c =
    let s = c.args.self.now in
    let text = c.args.text.now in
    let is = c.copy_from_slice.ensures.after in
    let start = c.literals-start.ensures in
    let texts = ap (λ (l : Limits). l.texts) c.take.ensures.limits in
    let literals = ap (λ (l : Limits). l.literals) c.take.ensures.limits in
    let more = c.take.ensures.more in
    let long = places_kept s text c.copy_from_slice.new.self c.literals-start.result is start c.requires.room.1 in
    let many = length-set s.rows.now c.from.result (record { start = c.literals-start.result; length = length text; on = false }) in
    let one =
    one_more s text c.copy_from_slice.new.self c.literals-start.result is start c.requires.room.1 c.requires.room.0 c.requires.clause
    c.from.result _ _ (c.from.ensures ∙ c.texts.ensures) more.0 more.1 in
    record {
      small = (omega (arith, s.small, texts), omega (arith, s.small, literals));
      served = (omega (arith, s.served, many, texts), omega (arith, s.served, long, literals));
      placed = one.placed;
      counted = one.counted;
      rising = one.rising;
    }

pub returns : goal.returns
returns c =
    let s = c.args.self.now in
    let more = c.take.ensures.more in
    let one =
    one_more s c.args.text.now c.copy_from_slice.new.self c.literals-start.result c.copy_from_slice.ensures.after (c.literals-start.ensures)
    c.requires.room.1 c.requires.room.0 c.requires.clause c.from.result _ _ (c.from.ensures ∙ c.texts.ensures) more.0 more.1 in
    alike one.texts one.marks refl refl refl (ap (λ (l : Limits). l.texts) c.take.ensures.limits) (ap (λ (l : Limits). l.literals) c.take.ensures.limits)

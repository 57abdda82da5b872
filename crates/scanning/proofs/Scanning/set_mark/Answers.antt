use Rattle.std.proofs.Common.{refl, ap, ◌∙◌, arith}
use Rattle.std.specs.List.{list_all}
use Rattle.std.proofs.lemmas.List.{length-set}
use Rattle.cnf.specs.Clauses.{literals}
use Rattle.cnf.specs.Ascending.{ascending}
use Rattle.engine.specs.Meaning.{highest}
use Rattle.engine.proofs.Refusing.{alike}
use Rattle.scanning.specs.Store.{blank_row}
use Rattle.scanning.proofs.Keeping.{texts_marked, marks_marked, placed_marked}
use Rattle.scanning.proofs.Scanning.set_mark.Goals as goal

pub invariant_of-self : goal.invariant_of-self
invariant_of-self c =
    let s = c.args.self.now in
    let texts = texts_marked s.places.now s.books.room.texts c.args.place s.rows.now blank_row c.args.on in
    record {
      small = s.small;
      served = simp length-set s.served;
      placed = placed_marked s.rows.now s.books.room.texts s.books.room.literals c.args.place c.args.on (omega (arith, s.books.room.few, s.served)) s.placed;
      counted = ap literals texts ∙ s.counted;
      rising = ap (list_all (ascending 0 highest)) texts ∙ s.rising;
    }

pub returns : goal.returns
returns c =
    let s = c.args.self.now in
    alike (texts_marked s.places.now s.books.room.texts c.args.place s.rows.now blank_row c.args.on)
    (marks_marked s.books.room.texts c.args.place s.rows.now blank_row c.args.on) refl refl refl refl refl

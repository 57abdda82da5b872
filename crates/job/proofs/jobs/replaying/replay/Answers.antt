use Rattle.std.proofs.Common.{◌≡◌, ℕ, ◌<◌, List, length, get_or, ap, ◌∙◌, subst, arith, rules}
use Rattle.std.proofs.lemmas.Grind.{common_steps}
use Rattle.std.proofs.lemmas.List.{get_or_default}
use Rattle.job.specs.declared.jobs.orders.Order.{Order}
use Rattle.job.specs.View.{View}
use Rattle.job.specs.Seen.{view}
use Rattle.job.specs.Opening.{opened_over}
use Rattle.job.specs.History.{box_in}
use Rattle.job.specs.Replaying.{blank_order, Came, Played, new_machine}
use Rattle.job.proofs.Replayed.{played_more, agrees_throughout}
use Rattle.job.proofs.jobs.replaying.replay.Goals as goal

-- an order of the list that is gone over, where that list is as long as the orders and is them
the_order : (items orders : List Order) (i : ℕ) (d : Order) → i < length items → length items ≡ length orders → items ≡ orders → get_or items i d ≡ get_or orders i blank_order
the_order items orders i d h same is = get_or_default items i d blank_order h ∙ ap (λ (os : List Order). get_or os i blank_order) is

pub loop-order-preserved : goal.loop-order-preserved
loop-order-preserved g c =
    let b = c.obey-last.ensures.lent in
    let a = c.loop-order.invariant.0 in (
      (b.0 ∙ a.0, b.1 ∙ a.1, b.2 ∙ a.2, b.3 ∙ a.3),
      played_more (new_machine (view c.open-job.result)) c.args.orders.now c.loop-order.order-index c.loop-order.last c.obey-last.result (view c.loop-order.job) (view c.obey-last.new.self) c.loop-order.invariant.1
          (subst (λ (o : Order). Came (view c.loop-order.job) o c.obey-last.result (view c.obey-last.new.self)) (the_order _ c.args.orders.now c.loop-order.order-index _ c.loop-order-test.true (omega arith) (grind (arith, common_steps))) c.obey-last.ensures.came),
    )

pub returns : goal.returns
returns g c =
    let new = opened_over c.args.size c.args.records.now c.args.steps.now c.args.literals.now c.args.arcs.now in
    let after = view c.loop-order.job in
    let orders = c.args.orders.now in
    let all : c.loop-order.order-index ≡ length orders = omega arith in
    let played : Played (new_machine new) orders (length orders) c.loop-order.last after =
    subst (λ (k : ℕ). Played (new_machine new) orders k c.loop-order.last after) all
    (subst (λ (s : View). Played (new_machine s) orders c.loop-order.order-index c.loop-order.last after) c.open-job.ensures.holds c.loop-order.invariant.1) in
    record {
      replays = record {
        after = after;
        its_rows = search rules;
        its_steps = search rules;
        its_lits = search rules;
        its_arcs = search rules;
        played = played;
        agrees = agrees_throughout new.variables new.places new.room played.events (box_in after) played.run;
      };
    }

-- One text added to a page after another. Assumes nothing.
use Rattle.std.proofs.Common.{◌≡◌, ℕ, ◌-◌, ◌^◌, ◌<◌, List, ◌++◌, length, ap, ◌∙◌, subst, arith}
use Rattle.std.proofs.lemmas.List.{length-append}
use Rattle.lines.specs.declared.pages.Page.{Page}
use Rattle.lines.specs.Pages.{Adds}
use Rattle.lines.proofs.Chains.{puts_then, put_length}

-- a text after another
pub adds_then : {s : Page} {cs bs : List ℕ} {t u : Page} → Adds s cs t → Adds t bs u → Adds s (cs ++ bs) u
adds_then {s} {cs} {bs} {t} {u} p q =
    let long = length-append cs bs in
    record {
      counts = omega (arith, p.counts, q.counts, long);
      puts = λ fit.
          let first = p.puts (omega (arith, fit, long)) in
          let same = ap length first.after ∙ put_length s.out.now s.next cs (omega (arith, fit, long)) in
          puts_then (omega (arith, fit)) first (q.puts (omega (arith, fit, long, first.next, same)));
      same = q.same ∙ p.same;
    }

-- the same text under another name
pub adds_as : {s : Page} {cs bs : List ℕ} {t : Page} → cs ≡ bs → Adds s cs t → Adds s bs t
adds_as {s} {cs} {bs} {t} e p = subst (λ l. Adds s l t) e p

-- a text that goes on where the count is full has no room
pub adds_full : {s : Page} {cs bs : List ℕ} {t : Page} → length t.out.now < t.next → t.next ≡ 2 ^ 64 - 1 → length cs < length bs → Adds s cs t → Adds s bs t
adds_full {s} {cs} {bs} {t} past full more p =
    record {
      counts = omega (arith, p.counts);
      puts = λ fit.
          let first = p.puts (omega arith) in
          absurd (omega (arith, fit, first.next, ap length first.after ∙ put_length s.out.now s.next cs (omega arith)));
      same = p.same;
    }

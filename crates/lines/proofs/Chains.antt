-- One text put after another, and what a writer's promise says at each answer. Assumes nothing.
use Rattle.std.proofs.Common.{◌≡◌, ℕ, ◌+◌, ◌<◌, ◌≤◌, List, ◌++◌, length, take, drop, Ok, Err, Result, sym, ap, ◌∙◌, inl, inr, arith}
use Rattle.std.proofs.lemmas.List.{append_assoc, length-append, length-take-le, length-drop, take_at, drop_at, drop-drop}
use Rattle.std.proofs.lemmas.Bool.{cond-true, cond-false, cases_Bool, leb-true, leb-false, le-leb}
use Rattle.lines.specs.declared.faults.WriteFault.{WriteFault}
use Rattle.lines.specs.declared.faults.WriteFault.TheVariants.{NoRoom}
use Rattle.lines.specs.Put.{put, Puts}
use Rattle.lines.specs.Writes.{has_room, Writes}

-- a second put, at the place after the first
put_put : (out : List ℕ) (at : ℕ) (cs : List ℕ) (n : ℕ) (bs : List ℕ) → n ≡ at + length cs → at ≤ length out → put (put out at cs) n bs ≡ put out at (cs ++ bs)
put_put out at cs n bs e h =
    let before = take at out ++ cs in
    let rest = drop (at + length cs) out in
    let split : put out at cs ≡ before ++ rest = sym (append_assoc (take at out) cs rest) in
    let long : length before ≡ n = length-append (take at out) cs ∙ ap (λ k. k + length cs) (length-take-le at out h) ∙ sym e in
    let more : (at + length cs) + length bs ≡ at + length (cs ++ bs) = omega (arith, length-append cs bs) in
    let tail : drop (n + length bs) (put out at cs) ≡ drop (at + length (cs ++ bs)) out =
    sym (drop-drop (length bs) n (put out at cs))
    ∙ ap (λ l. drop (length bs) l) (ap (λ l. drop n l) split ∙ drop_at before rest n long)
    ∙ drop-drop (length bs) (at + length cs) out
    ∙ ap (λ k. drop k out) more in
    ap (λ l. l ++ (bs ++ drop (n + length bs) (put out at cs))) (ap (λ l. take n l) split ∙ take_at before rest n long)
    ∙ append_assoc (take at out) cs (bs ++ drop (n + length bs) (put out at cs))
    ∙ ap (λ l. take at out ++ l) (sym (append_assoc cs bs (drop (n + length bs) (put out at cs))) ∙ ap (λ l. (cs ++ bs) ++ l) tail)

pub put_length : (out : List ℕ) (at : ℕ) (bs : List ℕ) → at + length bs ≤ length out → length (put out at bs) ≡ length out
put_length out at bs h =
    length-append (take at out) (bs ++ drop (at + length bs) out)
    ∙ omega (arith, length-append bs (drop (at + length bs) out), length-take-le at out (omega arith), length-drop (at + length bs) out)

module _ {out : List ℕ} {at : ℕ} where
  -- a text after another
  pub puts_then : {cs bs : List ℕ} {n r : ℕ} {was out' : List ℕ} → at ≤ length out → Puts out at cs n was → Puts was n bs r out' → Puts out at (cs ++ bs) r out'
  puts_then {cs} {bs} {n} {r} {was} {out'} h p q =
      record {
        after = q.after ∙ ap (λ l. put l n bs) p.after ∙ put_put out at cs n bs p.next h;
        next = omega (arith, p.next, q.next, length-append cs bs);
      }

  -- a writer that answers a place had room, and put its text
  pub writes_ok : {bs : List ℕ} {r : ℕ} {out' : List ℕ} → Writes out at bs (Ok r) out' → (at + length bs ≤ length out) × Puts out at bs r out'
  writes_ok {bs} {r} {out'} w =
      elim (cases_Bool (has_room out at bs)) [
        | inl h ↦
            let e : ◌≡◌ {A = Result ℕ WriteFault} (Ok r) (Ok (at + length bs)) = w.answer ∙ cond-true _ _ _ h in
            (leb-true _ _ h, record { after = w.after ∙ cond-true _ _ _ h; next = cc })
        | inr h ↦
            let e : ◌≡◌ {A = Result ℕ WriteFault} (Ok r) (Err NoRoom) = w.answer ∙ cond-false _ _ _ h in
            let z : ◌≡◌ {A = ℕ} 0 1 = cc in
            absurd (omega arith)
      ]

  -- a writer that refuses had no room, and changed nothing
  pub writes_err : {bs : List ℕ} {fault : WriteFault} {out' : List ℕ} → Writes out at bs (Err fault) out' → (length out < at + length bs) × (out' ≡ out)
  writes_err {bs} {fault} {out'} w =
      elim (cases_Bool (has_room out at bs)) [
        | inl h ↦
            let e : ◌≡◌ {A = Result ℕ WriteFault} (Err fault) (Ok (at + length bs)) = w.answer ∙ cond-true _ _ _ h in
            let z : ◌≡◌ {A = ℕ} 0 1 = cc in
            absurd (omega arith)
        | inr h ↦ (leb-false _ _ h, w.after ∙ cond-false _ _ _ h)
      ]

-- two texts written one after the other are one text written
pub writes_then : {out : List ℕ} {at : ℕ} {cs bs : List ℕ} {n r : ℕ} {was out' : List ℕ} → Writes out at cs (Ok n) was → Writes was n bs (Ok r) out' → Writes out at (cs ++ bs) (Ok r) out'
writes_then {out} {at} {cs} {bs} {n} {r} {was} {out'} v w =
    let first = writes_ok v in
    let second = writes_ok w in
    let same = ap length first.1.after ∙ put_length out at cs first.0 in
    let both = puts_then (omega (arith, first.0)) first.1 second.1 in
    let room = le-leb (at + length (cs ++ bs)) (length out) (omega (arith, first.1.next, second.0, length-append cs bs)) in
    record { answer = ap (λ k. Ok k) both.next ∙ sym (cond-true _ _ _ room); after = both.after ∙ sym (cond-true _ _ _ room) }

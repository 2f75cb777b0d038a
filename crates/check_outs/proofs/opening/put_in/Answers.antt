use Rattle.std.proofs.Common.{◌≡◌, ◌∙◌, nat_lt, length, sym, ap, arith, vec_len}
use Rattle.std.specs.Prelude.{ℕ, List, position, insert, if◌then◌else◌, is_ok, IsOk, Result, Ok, Err, Option}
use Rattle.std.specs.Option.{unwrap_or}
use Rattle.check_outs.specs.declared.any.AnyCheckOut.{AnyCheckOut}
use Rattle.check_outs.specs.Typed.{number_of}
use Rattle.check_outs.proofs.PutIn.{put_is, place_within}
use Rattle.check_outs.proofs.opening.put_in.Goals as goal

-- the index is that of the first of a higher number, or the end
index_is : {A : Type 0} (check_outs items : List (AnyCheckOut A)) (index number len n k : ℕ) (o : Option ℕ) → index ≡ unwrap_or o len → o ≡ position (λ x. nat_lt number (number_of x)) check_outs → number ≡ n → check_outs ≡ items → len ≡ k → length check_outs ≡ k
    → index ≡ unwrap_or (position (λ x. nat_lt n (number_of x)) items) (length items)
index_is check_outs items index number len n k o index_at o_at number_at same len_at size =
    index_at
    ∙ ap (λ p. unwrap_or p len) (o_at ∙ ap (λ m. position (λ x. nat_lt m (number_of x)) check_outs) number_at ∙ ap (position (λ x. nat_lt n (number_of x))) same)
    ∙ ap (unwrap_or (position (λ x. nat_lt n (number_of x)) items)) (len_at ∙ sym size ∙ ap length same)

put_done : {X E : Type 0} (r : Result (Unit {0}) E) (xs ys zs : List X) → IsOk r → zs ≡ (if is_ok r then ys else xs) → zs ≡ ys
put_done (Ok done) xs ys zs ok e = e
put_done (Err failed) xs ys zs ok e = cc

pub insert-requires : goal.insert-requires
insert-requires g c =
    let index = index_is c.deref.result.now c.args.check_outs.now.items c.unwrap_or-index.result c.number.result c.len.result (number_of c.args.check_out) (vec_len c.args.check_outs.now) c.first_above.result c.unwrap_or-index.ensures c.first_above.ensures c.number.ensures c.deref.ensures.value c.len.ensures c.deref.ensures.len in
    let within = place_within c.args.check_outs.now.items (number_of c.args.check_out) in
    omega (arith, index, within, c.deref.ensures.len, ap length c.deref.ensures.value)

pub returns-clause-items : goal.returns-clause-items
returns-clause-items g c =
    let index = index_is c.deref.result.now c.args.check_outs.now.items c.unwrap_or-index.result c.number.result c.len.result (number_of c.args.check_out) (vec_len c.args.check_outs.now) c.first_above.result c.unwrap_or-index.ensures c.first_above.ensures c.number.ensures c.deref.ensures.value c.len.ensures c.deref.ensures.len in
    put_done c.insert.result c.args.check_outs.now.items (insert c.args.check_outs.now.items c.unwrap_or-index.result c.args.check_out) c.insert.new.self.items (c.insert.ensures.succeeds c.requires) c.insert.ensures.items
    ∙ ap (λ i. insert c.args.check_outs.now.items i c.args.check_out) index
    ∙ put_is c.args.check_out c.args.check_outs.now.items

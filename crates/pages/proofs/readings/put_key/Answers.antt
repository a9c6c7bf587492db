use Rattle.std.proofs.Common.{◌≡◌, ℕ, List, [], ◌∷◌, ◌++◌, decimal, sym, ap, ◌∙◌, append-nil, arith}
use Rattle.std.proofs.lemmas.List.{length_push}
use Rattle.replays.specs.Kinds.{read_print}
use Rattle.pages.proofs.Fields.{field}
use Rattle.pages.proofs.Writing.{wrote_as, wrote_more}
use Rattle.pages.proofs.readings.put_key.Goals as goal

pub put_printed-end_at-requires : goal.put_printed-end_at-requires
put_printed-end_at-requires g c =
    omega (
      arith,
      c.put_byte-key_at.ensures.wrote.ends,
      length_push (decimal c.args.i) 0x20,
      (g.met.K.Printed.brief c.args.key.now c.requires.lawful).1,
    )

pub put_text-requires : goal.put_text-requires
put_text-requires g c =
    omega (
      arith,
      c.put_byte-key_at.ensures.wrote.ends,
      c.put_printed-end_at.ensures.ends,
      length_push (decimal c.args.i) 0x20,
      (g.met.K.Printed.brief c.args.key.now c.requires.lawful).1,
    )

pub returns : goal.returns
returns g c =
    let key = c.args.key.now in
    let reading = g.K.Key.reading in
    let printed = g.K.Printed.printed in
    let view = g.K.Key.view in
    -- the byte form of a lawful key reads back
    let prints : read_print view reading printed (reading (view key).form) ≡ printed key =
    ap (read_print view reading printed) (ap reading (sym (append-nil (view key).form)) ∙ g.met.K.Key.back key [] c.requires.lawful)
    in
    let same : (decimal c.args.i ++ 0x20 ∷ []) ++ (printed key ++ 0x0A ∷ []) ≡ decimal c.args.i ++ 0x20 ∷ (read_print view reading printed (reading (view key).form) ++ 0x0A ∷ []) =
    field (decimal c.args.i) (printed key ++ 0x0A ∷ [])
    ∙ ap (λ (l : List ℕ). decimal c.args.i ++ 0x20 ∷ (l ++ 0x0A ∷ [])) (sym prints)
    in
    record {
      wrote = wrote_as same (wrote_more c.put_byte-key_at.ensures.wrote (wrote_more c.put_printed-end_at.ensures c.put_text.ensures));
      brief =
          omega (
            arith,
            c.put_byte-key_at.ensures.wrote.ends,
            c.put_printed-end_at.ensures.ends,
            c.put_text.ensures.ends,
            length_push (decimal c.args.i) 0x20,
            (g.met.K.Printed.brief key c.requires.lawful).1,
          );
    }

use Rattle.std.proofs.Common.{◌≡◌, Ok, Err, refl, sym, ◌∙◌, ap, rules}
use Rattle.std.specs.Prelude.{option_map}
use Rattle.lru_shard_files.specs.Loading.{Unread, Given}
use Rattle.lru_shard_files.proofs.loading.load_from_file.Goals as goal

pub returns-in_err-bytes-clause-turn : goal.returns-in_err-bytes-clause-turn
returns-in_err-bytes-clause-turn g c =
    let failure = c.in_err-bytes.field-0.0 in
    let handed : c.from_residual.result ≡ Err failure = search rules in
    let read = c.in_err-bytes.ensures {u = tt} in (
      Unread failure,
      handed,
      refl,
      read.unread,
      λ k. record {
        so = read.unread;
        named = read.named k;
        told = read.told k;
        later = read.later k;
        files = read.files k;
        places = read.places k;
        spares = read.spares k;
        kept = read.kept.0 k;
      },
    )

pub returns-in-Ok-clause-turn : goal.returns-in-Ok-clause-turn
returns-in-Ok-clause-turn g c = (
  Given c.in-Some.bytes.items (Ok c.in-Ok.field-0),
  refl,
  (c.deref.result, c.deref.ensures.value, c.in-Ok.ensures {u = tt}),
  λ k. sym ((c.in_ok-bytes.ensures {u = tt}).found k) ∙ ap (option_map (λ b. b.items)) c.in-Some.is,
  λ k. let read = c.in_ok-bytes.ensures {u = tt} in record {
    so = λ k. sym ((c.in_ok-bytes.ensures {u = tt}).found k) ∙ ap (option_map (λ b. b.items)) c.in-Some.is;
    named = tt;
    told = λ rose. read.told k rose;
    later = read.later k;
    files = read.files k;
    places = read.places k;
    spares = read.spares k;
    kept = read.kept.0 k;
  },
)

pub returns-clause-turn : goal.returns-clause-turn
returns-clause-turn g c = (
  Given c.in-Some.bytes.items (Err c.in-Err.source),
  refl,
  (c.deref.result, c.deref.ensures.value, c.in-Err.ensures {u = tt}),
  λ k. sym ((c.in_ok-bytes.ensures {u = tt}).found k) ∙ ap (option_map (λ b. b.items)) c.in-Some.is,
  λ k. let read = c.in_ok-bytes.ensures {u = tt} in record {
    so = λ k. sym ((c.in_ok-bytes.ensures {u = tt}).found k) ∙ ap (option_map (λ b. b.items)) c.in-Some.is;
    named = tt;
    told = λ rose. read.told k rose;
    later = read.later k;
    files = read.files k;
    places = read.places k;
    spares = read.spares k;
    kept = read.kept.0 k;
  },
)

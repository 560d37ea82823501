use Rattle.le.proofs.Laws.{after, same_bytes}
use Rattle.refusal_text.proofs.put_text.Goals as goal

pub returns : goal.returns
returns c =
    same_bytes
    (simp (c.as_bytes.ensures.value, c.words_of-words.ensures.value.before, c.as_bytes-2.ensures.value, c.as_bytes-3.ensures.value, c.words_of-words.ensures.value.between, c.words_of-words.ensures.value.after, c.words_of-words.ensures.value.first, c.words_of-words.ensures.value.second))
    (after c.put_bytes-a.ensures (after c.put_figure-b.ensures (after c.put_bytes-c.ensures (after c.put_figure-d.ensures c.put_bytes.ensures))))

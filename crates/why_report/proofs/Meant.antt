-- Sentences word for word: computed.
use Rattle.std.proofs.Common.{refl}
use Rattle.std.specs.Fmt.{digits}
use Rattle.wording.specs.Wording.{grouped, grouped_by, many, bytes, figure, refusal_text}
use Rattle.why_report.specs.Text.{sentence_text, section_text, row_text}
use Rattle.why_report.specs.Sentences.{SentencesMeant}

pub sentences_meant : SentencesMeant
unfolding digits sentence_text section_text row_text grouped grouped_by many bytes figure refusal_text
sentences_meant = record {
  guid_unflagged = refl;
  attributes_unflagged = refl;
  extended_unflagged = refl;
  chain_unflagged = refl;
  no_flags = refl;
  guid_short = refl;
  attributes_short = refl;
  extended_short = refl;
  chain_short = refl;
  guid_whole = refl;
  attributes_whole = refl;
  extended_whole = refl;
  chain_whole = refl;
  attribute_refused = refl;
  record_refused = refl;
  owed = refl;
  bytes = refl;
  sixteen = refl;
  none = refl;
}

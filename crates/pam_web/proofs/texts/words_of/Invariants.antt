-- the words so far are those of the texts, each of which is UTF-8
use Rattle.std.proofs.Common.{◌≡◌, map, string_bytes, take}
use Rattle.std.specs.List.{AllByRecursion}
use Rattle.std.specs.Str.{IsUtf8}
use Rattle.pam_web.proofs.texts.words_of.Given as goal

abbrev pub invariant-loop-text : goal.invariant-loop-text
invariant-loop-text l = record {
  words : map string_bytes l.words.items ≡ map (λ t. t.now) (take l.text-index l.texts);
  utf8 : AllByRecursion IsUtf8 (map (λ t. t.now) (take l.text-index l.texts));
}

use Rattle.gc_texts.proofs.Common.{rules, ◌≡◌, IsRaw, second_word, after_two_words}
use Rattle.gc_texts.proofs.RawTroubles.{raw_words_trouble_is_requests, same_raw_trouble}
use Rattle.gc_texts.proofs.trouble.request_trouble.Goals as goal

pub returns-then-is_word : goal.returns-then-is_word
returns-then-is_word c =
    let request = c.args.request.now in
    let word : IsRaw request = search rules in
    let number : c.before-then-is_word.result.now ≡ second_word request = search rules in
    let params : c.behind.result.now ≡ after_two_words request = search rules in
    raw_words_trouble_is_requests request word c.raw_words_trouble.result
    (same_raw_trouble c.before-then-is_word.result.now (second_word request) c.behind.result.now (after_two_words request) c.raw_words_trouble.result number params c.raw_words_trouble.ensures)

use Rattle.std.proofs.Common.{◌≡◌, ◌+◌, ◌++◌, ◌∷◌, [], List, drop, length, map, refl, sym, ap, ◌∙◌, subst, arith}
use Rattle.std.proofs.lemmas.List.{map-append}
use Rattle.std.proofs.lemmas.Str.{IsCharBoundary-from_rest}
use Rattle.std.specs.Str.{IsCharBoundary}
use Rattle.ofn_tree.specs.Token.{PlainToken, plain_token}
use Rattle.ofn_tree.specs.Lexemes.{Piece, whole, bad_byte_line, pieces_from, front_pieces, token_of}
use Rattle.ofn_tree.specs.Document.{nothing_met, document_front}
use Rattle.ofn_tree.specs.Scanned.{lexeme_of, met_of}
use Rattle.ofn_tree.proofs.Reading.{with_tokens, with_none, pieces-mark, pieces-gap, pieces-token, told_token}
use Rattle.ofn_tree.proofs.lexer.tokens.Goals as goal

pub loop-place-init : goal.loop-place-init
loop-place-init c =
    let text = c.args.text.now in
    let front = c.utf8_front-front.result.now in
    record {
      told =
          (λ i. with_tokens (map plain_token (c.new-tokens.ensures.items i))
          (document_front (length text) (c.none-brackets.ensures.none i)
          (pieces_from (bad_byte_line text) 0 (c.mark_len-place.ensures.value i) 1
          (drop (c.mark_len-place.ensures.value i) front))))
          ∙ with_none _
          ∙ ap (document_front (length text) nothing_met) (pieces-mark (bad_byte_line text) front)
          ∙ ap (λ l. document_front (length text) nothing_met (front_pieces (bad_byte_line text) l))
          c.utf8_front-front.ensures.front;
      boundary = c.mark_len-place.ensures.within;
      lines = omega arith;
      shallow = omega (arith, c.none-brackets.ensures.depth);
    }

pub loop-place-preserved-in-Gap : goal.loop-place-preserved-in-Gap
loop-place-preserved-in-Gap c =
    let text = c.args.text.now in
    let front = c.utf8_front-front.result.now in
    let place = c.loop-place.place in
    let len = c.in-Gap.len in
    let rest = c.range_from.result.now in
    let is : rest ≡ drop place front = c.range_from.ensures.value in
    record {
      told =
          ap (λ ps. with_tokens (map plain_token c.loop-place.tokens.items)
          (document_front (length text) (met_of c.loop-place.brackets) ps))
          (sym (pieces-gap (bad_byte_line text) front rest place c.loop-place.line len c.loop-place-test.true is
          c.in-Gap.ensures.within.0 c.in-Gap.ensures.cut
          ∙ ap
          (λ n. pieces_from (bad_byte_line text) 0 (place + len) (c.loop-place.line + n) (drop (place + len) front))
          c.in-Gap.ensures.feeds.0))
          ∙ c.loop-place.invariant.told;
      boundary =
          IsCharBoundary-from_rest front place len (omega arith)
          (subst (λ l. IsCharBoundary l len) is c.in-Gap.ensures.within.1);
      lines = omega (arith, c.in-Gap.ensures.feeds.1, c.loop-place.invariant.lines);
      shallow = omega (arith, c.in-Gap.ensures.within.0);
    }

pub loop-place-preserved : goal.loop-place-preserved
loop-place-preserved c =
    let text = c.args.text.now in
    let front = c.utf8_front-front.result.now in
    let place = c.loop-place.place in
    let len = c.in-Token.lexeme.len in
    let rest = c.range_from.result.now in
    let is : rest ≡ drop place front = c.range_from.ensures.value in
    let t : PlainToken = token_of place c.loop-place.line (lexeme_of c.in-Token.lexeme) in
    let listed : map plain_token c.push.new.self.items ≡ map plain_token c.loop-place.tokens.items ++ t ∷ [] =
    ap (map plain_token) c.in_ok-push-in-Token.ensures.items ∙ map-append plain_token c.loop-place.tokens.items _ in
    let ps : List Piece =
    pieces_from (bad_byte_line text) 0 (place + len) (c.loop-place.line + c.in-Token.lexeme.line_feeds)
    (drop (place + len) front) in
    let here : pieces_from (bad_byte_line text) 0 place c.loop-place.line (drop place front)
    ≡ whole t (place + len) ∷ ps =
    pieces-token (bad_byte_line text) front rest place c.loop-place.line len (lexeme_of c.in-Token.lexeme)
    c.loop-place-test.true is c.in-Token.ensures.within.0 refl c.in-Token.ensures.cut
    ∙ ap (λ n. whole t (place + len)
    ∷ pieces_from (bad_byte_line text) 0 (place + len) (c.loop-place.line + n) (drop (place + len) front))
    c.in-Token.ensures.feeds.0 in
    record {
      told =
          told_token (length text) (met_of c.loop-place.brackets) (met_of c.behind-brackets.result) t (place + len) _ ps
          (map plain_token c.loop-place.tokens.items) (map plain_token c.push.new.self.items) _
          here (sym c.closes_document.ensures ∙ c.if-closes_document.false) c.behind-brackets.ensures.value listed
          c.loop-place.invariant.told;
      boundary =
          IsCharBoundary-from_rest front place len (omega arith)
          (subst (λ l. IsCharBoundary l len) is c.in-Token.ensures.within.1);
      lines = omega (arith, c.in-Token.ensures.feeds.1, c.loop-place.invariant.lines);
      shallow = omega (arith, c.behind-brackets.ensures.within, c.in-Token.ensures.within.0);
    }

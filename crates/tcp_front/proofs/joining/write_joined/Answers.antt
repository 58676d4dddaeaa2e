use Rattle.std.proofs.Common.{List, ℕ, ◌+◌, ◌++◌, ◌∷◌, [], length, sym, ap, subst, ◌∙◌, append_assoc, append-nil}
use Rattle.outboxes.specs.Messages.{ReplyMessage, record_of}
use Rattle.tcp_front.specs.declared.joining.Joined.{Joined}
use Rattle.tcp_front.specs.Joining.{HasJoined, over}
use Rattle.tcp_front.specs.Writing.{records_of}
use Rattle.tcp_front.proofs.JoinedRows.{all-went, all-counted, part-within, part-went, part-counted}
use Rattle.tcp_front.proofs.joining.write_joined.Goals as goal

pub returns-in-Err : goal.returns-in-Err
returns-in-Err g c =
    let did = c.loop.invariant.did in
    let ms = did.0 in
    let h = c.join-joined.ensures in
    let ks = h.0 in
    let others = over c.join-joined.result in
    let are = c.deref.ensures.value ∙ h.2 ∙ ap (λ (l : List ℕ). l ++ records_of ks) c.clear.ensures.items in
    let part = c.in-Err.ensures in (
      ms ++ (ks ++ others),
      (
        length (records_of ms) + part.0,
        g.met.S.RecordSource.gave_more _ _ _ ms (ks ++ others) did.1 h.1,
        part-within _ _ ms did.2 ks _ are others part.0 part.1,
        part-went _ _ ms did.2 ks _ are others part.0 part.1 _ part.2,
        part-counted _ _ ms did.2 ks _ are others part.0 part.1 _ _ did.3 part.3,
        part.4 ∙ ap (λ (n : ℕ). n + 1) c.loop.invariant.same,
      ),
    )

pub returns-in-Out : goal.returns-in-Out
returns-in-Out g c =
    let did = c.loop.invariant.did in
    let ms = did.0 in
    let gave = g.S.RecordSource.gave in
    let h = subst (λ (j : Joined). HasJoined gave g.S.RecordSource.is_out c.loop.source c.clear.new.self.items j
    c.join-joined.new.source c.join-joined.new.buffer.items)
    c.in-Out.is c.join-joined.ensures in
    let ks = h.0 in
    let are = c.deref.ensures.value ∙ h.2 ∙ ap (λ (l : List ℕ). l ++ records_of ks) c.clear.ensures.items in
    let sent = c.in-Ok.ensures in (
      ms ++ ks,
      subst (λ (l : List ReplyMessage). gave c.args.source.now (ms ++ l) c.join-joined.new.source) (append-nil ks)
          (g.met.S.RecordSource.gave_more _ _ _ ms (ks ++ []) did.1 h.1),
      h.3,
      all-went _ _ ms did.2 ks _ are _ sent.0,
      sent.2 ∙ c.loop.invariant.same,
    )

pub loop-preserved-in-Many : goal.loop-preserved-in-Many
loop-preserved-in-Many g c =
    let did = c.loop.invariant.did in
    let ms = did.0 in
    let gave = g.S.RecordSource.gave in
    let h = subst (λ (j : Joined). HasJoined gave g.S.RecordSource.is_out c.loop.source c.clear.new.self.items j
    c.join-joined.new.source c.join-joined.new.buffer.items)
    c.in-Many.is c.join-joined.ensures in
    let ks = h.0 in
    let are = c.deref.ensures.value ∙ h.2 ∙ ap (λ (l : List ℕ). l ++ records_of ks) c.clear.ensures.items in
    let sent = c.in-Ok.ensures in
    record {
      same = sent.2 ∙ c.loop.invariant.same;
      did = (
        ms ++ ks,
        subst (λ (l : List ReplyMessage). gave c.args.source.now (ms ++ l) c.join-joined.new.source) (append-nil ks)
            (g.met.S.RecordSource.gave_more _ _ _ ms (ks ++ []) did.1 h.1),
        all-went _ _ ms did.2 ks _ are _ sent.0,
        all-counted _ _ ms did.2 ks _ are _ _ did.3 sent.1,
      );
    }

pub returns-in-Err-send : goal.returns-in-Err-send
returns-in-Err-send g c =
    let did = c.loop.invariant.did in
    let ms = did.0 in
    let gave = g.S.RecordSource.gave in
    let m = c.in-Over.record in
    let h = subst (λ (j : Joined). HasJoined gave g.S.RecordSource.is_out c.loop.source c.clear.new.self.items j
    c.join-joined.new.source c.join-joined.new.buffer.items)
    c.in-Over.is c.join-joined.ensures in
    let ks = h.0 in
    let are = c.deref.ensures.value ∙ h.2 ∙ ap (λ (l : List ℕ). l ++ records_of ks) c.clear.ensures.items in
    let sent = c.in-Ok.ensures in
    let went = all-went _ _ ms did.2 ks _ are _ sent.0 in
    let counted = all-counted _ _ ms did.2 ks _ are _ _ did.3 sent.1 in
    let is = c.as_slice.ensures ∙ sym (append-nil (record_of m)) in
    let part = c.in-Err-send.ensures in (
      (ms ++ ks) ++ m ∷ [],
      (
        length (records_of (ms ++ ks)) + part.0,
        subst (λ (l : List ReplyMessage). gave c.args.source.now l c.join-joined.new.source) (sym (append_assoc ms ks (m ∷ [])))
            (g.met.S.RecordSource.gave_more _ _ _ ms (ks ++ m ∷ []) did.1 h.1),
        part-within _ _ (ms ++ ks) went (m ∷ []) _ is [] part.0 part.1,
        part-went _ _ (ms ++ ks) went (m ∷ []) _ is [] part.0 part.1 _ part.2,
        part-counted _ _ (ms ++ ks) went (m ∷ []) _ is [] part.0 part.1 _ _ counted part.3,
        part.4 ∙ ap (λ (n : ℕ). n + 1) (sent.2 ∙ c.loop.invariant.same),
      ),
    )

pub loop-preserved : goal.loop-preserved
loop-preserved g c =
    let did = c.loop.invariant.did in
    let ms = did.0 in
    let gave = g.S.RecordSource.gave in
    let m = c.in-Over.record in
    let h = subst (λ (j : Joined). HasJoined gave g.S.RecordSource.is_out c.loop.source c.clear.new.self.items j
    c.join-joined.new.source c.join-joined.new.buffer.items)
    c.in-Over.is c.join-joined.ensures in
    let ks = h.0 in
    let are = c.deref.ensures.value ∙ h.2 ∙ ap (λ (l : List ℕ). l ++ records_of ks) c.clear.ensures.items in
    let sent = c.in-Ok.ensures in
    let went = all-went _ _ ms did.2 ks _ are _ sent.0 in
    let counted = all-counted _ _ ms did.2 ks _ are _ _ did.3 sent.1 in
    let is = c.as_slice.ensures ∙ sym (append-nil (record_of m)) in
    let more = c.in-Ok-send.ensures in
    record {
      same = more.2 ∙ sent.2 ∙ c.loop.invariant.same;
      did = (
        (ms ++ ks) ++ m ∷ [],
        subst (λ (l : List ReplyMessage). gave c.args.source.now l c.join-joined.new.source) (sym (append_assoc ms ks (m ∷ [])))
            (g.met.S.RecordSource.gave_more _ _ _ ms (ks ++ m ∷ []) did.1 h.1),
        all-went _ _ (ms ++ ks) went (m ∷ []) _ is _ more.0,
        all-counted _ _ (ms ++ ks) went (m ∷ []) _ is _ _ counted more.1,
      );
    }

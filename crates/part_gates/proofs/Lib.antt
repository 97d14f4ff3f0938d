mod PushLemmas
